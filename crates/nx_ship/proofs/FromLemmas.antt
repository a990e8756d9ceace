-- How the sending of a log's groups ends.
use Rattle.std.proofs.Common.{◌≡◌, ◌≢◌, ℕ, Bool, true, false, List, [], ◌++◌, refl, sym, ap, ◌∙◌, append-nil}
use Rattle.std.specs.Prelude.{IsSome, Ok, Err}
use Rattle.std.proofs.lemmas.Bool.{false≢true}
use Rattle.nx_host.specs.Disk.{Image}
use Rattle.nx_host.specs.declared.disk.Disk.{Ghosts}
use Rattle.nx_replay.specs.Log.{Group, groups}
use Rattle.nx_wal.specs.declared.wal.Wal.{Wal}
use Rattle.nx_ship.specs.Stream.{stream_of}
use Rattle.nx_ship.specs.Next.{number_following}
use Rattle.nx_ship.specs.Sending.{from_number}
use Rattle.nx_ship.specs.Sent.{SendsMore, SendsSome, SendsGroups, StopsAtGroups, IsPrefix, IsCutShort, HasSentFrom, EndsSendingFrom}
use Rattle.nx_ship.specs.declared.error.ShipError.{ShipError}
use Rattle.nx_ship.specs.declared.error.ShipError.TheVariants as error
use Rattle.nx_ship.proofs.SendLemmas.{more_then, some_then, more_now, more_sends, more_appends, some_sends, still_sends, appends_none, sent_none}
use Rattle.nx_ship.proofs.SendingLemmas.{told_before}

cut_from : {D : Type 0} (d : Ghosts D) (number last : ℕ) (bytes : List ℕ) (was : Image) (a b : D) (e : ShipError) → IsPrefix bytes (stream_of (from_number number (groups was.log))) → IsCutShort e
    → HasSentFrom d number last (Err e) bytes was a b
cut_from d number last bytes was a b error.Disk part cut = (part, cut)
cut_from d number last bytes was a b error.Write part cut = (part, cut)
cut_from d number last bytes was a b error.Memory part cut = (part, cut)
cut_from d number last bytes was a b error.Read part cut = absurd cut
cut_from d number last bytes was a b error.NotAStore part cut = absurd cut
cut_from d number last bytes was a b error.TooMuch part cut = absurd cut
cut_from d number last bytes was a b (error.Damaged page) part cut = absurd cut
cut_from d number last bytes was a b (error.NoGroup from at) part cut = absurd cut
cut_from d number last bytes was a b (error.Repeat n l) part cut = absurd cut
cut_from d number last bytes was a b (error.Gap n l) part cut = absurd cut
cut_from d number last bytes was a b (error.Base n) part cut = absurd cut
cut_from d number last bytes was a b (error.Stream offset) part cut = absurd cut

module _ {D : Type 0} {d : Ghosts D} where
  -- a group wasn't sent whole
  pub from_stopped : {wal : Wal} {a b : D} (number last : ℕ) (e : ShipError) → StopsAtGroups d number wal e [] a b → EndsSendingFrom d number last wal (Err e) a b
  from_stopped {a = a} {b = b} number last e stops = record {
    bytes = (stops.sent).bytes;
    sends = some_sends (stops.sent).bytes (stops.sent).sends;
    are = λ was step empty told. cut_from d number last (stops.sent).bytes was a b e ((stops.sent).are was step empty told) stops.cut;
  }

  -- the last block wasn't given whole
  pub from_ungiven : {wal : Wal} {found : Bool} {q : List ℕ} {a b c : D} (number last : ℕ) (e : ShipError) → IsCutShort e → SendsGroups d number wal found [] q a b → SendsSome d [] q b c
      → EndsSendingFrom d number last wal (Err e) a c
  from_ungiven {q = q} {a = a} {b = b} {c = c} number last e cut sends gives =
      let sent = sends.sent in
      record {
        bytes = sent.bytes ++ [];
        sends = some_sends (sent.bytes ++ []) (some_then sent.bytes [] sent.sends gives);
        are = λ was step empty told.
            let told_b : IsSome (d.contents b) = told_before (d.contents b) (d.contents c) ((gives q b (sent_none q b)).contents_stay) told in
            let (is, none) = sent.are was step empty told_b in
            cut_from d number last (sent.bytes ++ []) was a c e ([], append-nil (sent.bytes ++ []) ∙ append-nil sent.bytes ∙ is) cut;
      }

  -- all was given
  pub from_given : {wal : Wal} {found : Bool} {q : List ℕ} {a b c : D} (number last : ℕ) → found ≡ true → SendsGroups d number wal found [] q a b → SendsMore d [] q [] b c
      → EndsSendingFrom d number last wal (Ok tt) a c
  from_given {q = q} {b = b} {c = c} number last found sends gives =
      let sent = sends.sent in
      let all = more_then sent.bytes [] sent.sends gives in
      record {
        bytes = sent.bytes ++ [];
        sends = more_sends (sent.bytes ++ []) all;
        are = λ was step empty told.
            let told_b : IsSome (d.contents b) = told_before (d.contents b) (d.contents c) ((more_now [] gives).contents_stay) told in
            let (is, none) = sent.are was step empty told_b in
            (append-nil sent.bytes ∙ is, more_appends (sent.bytes ++ []) all, λ nothing. absurd (false≢true (sym (none.1 nothing) ∙ found)));
      }

  -- there is none, and it is the next
  pub from_next : {wal : Wal} {found : Bool} {p q : List ℕ} {a b : D} (number last : ℕ) → found ≡ false → number ≡ number_following last → SendsGroups d number wal found p q a b
      → EndsSendingFrom d number last wal (Ok tt) a b
  from_next {a = a} {b = b} number last found next sends =
      let still = sends.none found in
      record {
        bytes = [];
        sends = still_sends [] still;
        are = λ was step empty told.
            let (is, none) = (sends.sent).are was step empty told in (
              sym (ap (λ (l : List Group). stream_of l) (none.0 found)),
              appends_none (d.beside a).output (d.beside b).output (still.beside_stays).output,
              λ nothing. next,
            );
      }

  -- ... and it isn't
  pub from_nowhere : {wal : Wal} {found : Bool} {p q : List ℕ} {a b : D} (number last : ℕ) → found ≡ false → number ≢ number_following last → SendsGroups d number wal found p q a b
      → EndsSendingFrom d number last wal (Err (error.NoGroup number last)) a b
  from_nowhere number last found not_next sends =
      let still = sends.none found in
      record {
        bytes = [];
        sends = still_sends [] still;
        are = λ was step empty told.
            let (is, none) = (sends.sent).are was step empty told in
            (refl, refl, refl, none.0 found, not_next, still);
      }
