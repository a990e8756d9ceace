-- How shipping ends.
use Rattle.std.proofs.Common.{◌≡◌, ℕ, List, [], None, Some, refl, sym, ap, subst, ◌∙◌, inl, inr}
use Rattle.std.specs.Prelude.{Result, Ok, Err, IfErr}
use Rattle.nx_host.specs.Disk.{Image}
use Rattle.nx_host.specs.Host.{Appends}
use Rattle.nx_host.specs.Still.{IsStill, IsSettled}
use Rattle.nx_host.specs.declared.disk.Disk.{Ghosts}
use Rattle.nx_host.proofs.DiskLemmas.{still_then}
use Rattle.nx_host.proofs.OutputLemmas.{appends_then}
use Rattle.nx_replay.specs.Log.{Pages, HasMark, groups, replay}
use Rattle.nx_wal.specs.Wal.{IsInStep, pending}
use Rattle.nx_wal.specs.declared.wal.Wal.{Wal}
use Rattle.nx_holdings.specs.declared.header.Header.{Header}
use Rattle.nx_ship.specs.Stream.{stream_of}
use Rattle.nx_ship.specs.Next.{IsHeadedBy}
use Rattle.nx_ship.specs.Sending.{Sends, shipment, from_number, EndsShipping, Ships, IsUnshipped, IsShipCause}
use Rattle.nx_ship.specs.Sent.{IsPrefix, IsHeadless, IsNoStoreOpened, IsFault, IsSendFault, HasSentAll, HasSentFrom, EndsSendingAll, EndsSendingFrom, EndsSending}
use Rattle.nx_ship.specs.declared.error.Start.{Start}
use Rattle.nx_ship.specs.declared.error.Start.TheVariants.{All, Number}
use Rattle.nx_ship.specs.declared.error.ShipError.{ShipError}
use Rattle.nx_ship.specs.declared.error.ShipError.TheVariants as error
use Rattle.nx_ship.proofs.SendLemmas.{still_sends, sends_prefix, sends_then, appends_none, fault_since, rose_since}
use Rattle.nx_ship.proofs.SendingLemmas.{prefix_all}

no_number : (number : ℕ) → All ≡ Number number → ⊥
no_number number is = let h : All ≡ Number number = is in cc

number_same : (n m : ℕ) → Number n ≡ Number m → n ≡ m
number_same n m is = let h : Number n ≡ Number m = is in cc

no_all : (number : ℕ) → Number number ≡ All → ⊥
no_all number is = let h : Number number ≡ All = is in cc

-- why nothing was opened, and why it ended so then
ship_unopened : {D : Type 0} (d : Ghosts D) (a b : D) (e : ShipError) → ((was : Image) → IsSettled d a was → IsUnshipped was (Err e)) → IsFault d e a b → IsShipCause d (Err e) a b
ship_unopened d a b error.Disk why fault = fault
ship_unopened d a b error.Memory why fault = tt
ship_unopened d a b error.NotAStore why fault = why
ship_unopened d a b (error.Damaged page) why fault = tt
ship_unopened d a b error.Write why fault = absurd fault
ship_unopened d a b error.Read why fault = absurd fault
ship_unopened d a b error.TooMuch why fault = absurd fault
ship_unopened d a b (error.NoGroup from at) why fault = absurd fault
ship_unopened d a b (error.Repeat n l) why fault = absurd fault
ship_unopened d a b (error.Gap n l) why fault = absurd fault
ship_unopened d a b (error.Base n) why fault = absurd fault
ship_unopened d a b (error.Stream offset) why fault = absurd fault

ship_sent : {D : Type 0} (d : Ghosts D) (a b : D) (r : Result (Unit {0}) ShipError) → ((e : ShipError) → r ≡ Err e → IsSendFault d e a b) → IsShipCause d r a b
ship_sent d a b (Ok x) fault = tt
ship_sent d a b (Err error.Disk) fault = fault error.Disk refl
ship_sent d a b (Err error.Write) fault = fault error.Write refl
ship_sent d a b (Err error.Memory) fault = tt
ship_sent d a b (Err (error.Damaged page)) fault = tt
ship_sent d a b (Err (error.NoGroup from at)) fault = tt
ship_sent d a b (Err error.NotAStore) fault = absurd (fault error.NotAStore refl)
ship_sent d a b (Err error.Read) fault = absurd (fault error.Read refl)
ship_sent d a b (Err error.TooMuch) fault = absurd (fault error.TooMuch refl)
ship_sent d a b (Err (error.Repeat n l)) fault = absurd (fault (error.Repeat n l) refl)
ship_sent d a b (Err (error.Gap n l)) fault = absurd (fault (error.Gap n l) refl)
ship_sent d a b (Err (error.Base n)) fault = absurd (fault (error.Base n) refl)
ship_sent d a b (Err (error.Stream offset)) fault = absurd (fault (error.Stream offset) refl)

-- all pages
all_ends : {D : Type 0} (d : Ghosts D) (bytes : List ℕ) (was : Image) (a b : D) (header : Header) (result : Result (Unit {0}) ShipError) → HasSentAll d header.number header.pages result bytes was a b
    → IsPrefix bytes (stream_of (shipment was header All)) × EndsShipping d was header All result a b
all_ends d bytes was a b header (Ok x) (is, appends, there) = (
  subst (λ (l : List ℕ). IsPrefix bytes l) is (prefix_all bytes),
  (
    subst (λ (l : List ℕ). Appends l (d.beside a).output (d.beside b).output) is appends,
    λ number is none. absurd (no_number number is),
    λ is. there,
  ),
)
all_ends d bytes was a b header (Err error.Disk) (part, lacks) = (part, tt)
all_ends d bytes was a b header (Err error.Write) (part, lacks) = (part, tt)
all_ends d bytes was a b header (Err error.Memory) (part, lacks) = (part, tt)
all_ends d bytes was a b header (Err (error.Damaged page)) (part, lacks) = (part, (refl, record { low = lacks.0; none = lacks.1 }))
all_ends d bytes was a b header (Err error.Read) (part, lacks) = absurd lacks
all_ends d bytes was a b header (Err error.NotAStore) (part, lacks) = absurd lacks
all_ends d bytes was a b header (Err error.TooMuch) (part, lacks) = absurd lacks
all_ends d bytes was a b header (Err (error.NoGroup from at)) (part, lacks) = absurd lacks
all_ends d bytes was a b header (Err (error.Repeat n l)) (part, lacks) = absurd lacks
all_ends d bytes was a b header (Err (error.Gap n l)) (part, lacks) = absurd lacks
all_ends d bytes was a b header (Err (error.Base n)) (part, lacks) = absurd lacks
all_ends d bytes was a b header (Err (error.Stream offset)) (part, lacks) = absurd lacks

-- groups
from_ends : {D : Type 0} (d : Ghosts D) (bytes : List ℕ) (was : Image) (a b : D) (number : ℕ) (header : Header) (result : Result (Unit {0}) ShipError) → HasSentFrom d number header.number result bytes was a b
    → IsPrefix bytes (stream_of (shipment was header (Number number))) × EndsShipping d was header (Number number) result a b
from_ends d bytes was a b number header (Ok x) (is, appends, next) = (
  subst (λ (l : List ℕ). IsPrefix bytes l) is (prefix_all bytes),
  (
    subst (λ (l : List ℕ). Appends l (d.beside a).output (d.beside b).output) is appends,
    λ other is none. sym (number_same number other is) ∙ next none,
    λ is. absurd (no_all number is),
  ),
)
from_ends d bytes was a b number header (Err (error.NoGroup from at)) (empty, is, here, none, not_next, still) = (
  subst (λ (l : List ℕ). IsPrefix l (stream_of (from_number number (groups was.log)))) (sym empty) (stream_of (from_number number (groups was.log)), refl),
  (
    ap (λ (n : ℕ). Number n) (sym is),
    none,
    λ next. not_next (sym is ∙ next),
    here,
    still,
  ),
)
from_ends d bytes was a b number header (Err error.Disk) (part, cut) = (part, tt)
from_ends d bytes was a b number header (Err error.Write) (part, cut) = (part, tt)
from_ends d bytes was a b number header (Err error.Memory) (part, cut) = (part, tt)
from_ends d bytes was a b number header (Err error.Read) (part, cut) = absurd cut
from_ends d bytes was a b number header (Err error.NotAStore) (part, cut) = absurd cut
from_ends d bytes was a b number header (Err error.TooMuch) (part, cut) = absurd cut
from_ends d bytes was a b number header (Err (error.Damaged page)) (part, cut) = absurd cut
from_ends d bytes was a b number header (Err (error.Repeat n l)) (part, cut) = absurd cut
from_ends d bytes was a b number header (Err (error.Gap n l)) (part, cut) = absurd cut
from_ends d bytes was a b number header (Err (error.Base n)) (part, cut) = absurd cut
from_ends d bytes was a b number header (Err (error.Stream offset)) (part, cut) = absurd cut

-- the errors of opening
pub unopened : (was : Image) (e : ShipError) → IsNoStoreOpened (replay was) e → IsUnshipped was (Err e)
unopened was error.NotAStore why = why
unopened was error.Disk why = tt
unopened was error.Memory why = tt
unopened was error.Write why = absurd why
unopened was error.Read why = absurd why
unopened was error.TooMuch why = absurd why
unopened was (error.Damaged page) why = absurd why
unopened was (error.NoGroup from at) why = absurd why
unopened was (error.Repeat n l) why = absurd why
unopened was (error.Gap n l) why = absurd why
unopened was (error.Base n) why = absurd why
unopened was (error.Stream offset) why = absurd why

no_mark : (pages : Pages) → HasMark pages → pages 0 ≡ None → ⊥
no_mark pages (bytes, there, begins) none = let a : pages 0 ≡ Some bytes = there in let b : pages 0 ≡ None = none in cc

pub headless : (was : Image) (e : ShipError) → HasMark (replay was) → IsHeadless (replay was) e → IsUnshipped was (Err e)
headless was error.NotAStore mark why = absurd (no_mark (replay was) mark why)
headless was (error.Damaged page) mark why = (mark, why)
headless was error.Disk mark why = tt
headless was error.Memory mark why = tt
headless was error.Write mark why = absurd why
headless was error.Read mark why = absurd why
headless was error.TooMuch mark why = absurd why
headless was (error.NoGroup from at) mark why = absurd why
headless was (error.Repeat n l) mark why = absurd why
headless was (error.Gap n l) mark why = absurd why
headless was (error.Base n) mark why = absurd why
headless was (error.Stream offset) mark why = absurd why

pub if_err : {T E : Type 0} (P : E → Type 0) (r : Result T E) → IfErr r P → (e : E) → r ≡ Err e → P e
if_err P (Err x) p e is = let same : x ≡ e = (let h : Err x ≡ Err e = is in cc) in subst P same p
if_err P (Ok x) p e is = absurd (let h : Ok x ≡ Err e = is in cc)

module _ {D : Type 0} {d : Ghosts D} where
  pub all_sending : {wal : Wal} {a b : D} (header : Header) (result : Result (Unit {0}) ShipError) → EndsSendingAll d header.number header.pages wal result a b → EndsSending d header All wal result a b
  all_sending {a = a} {b = b} header result ends = record { bytes = ends.bytes; sends = ends.sends; are = λ was step empty told. all_ends d ends.bytes was a b header result (ends.are was step empty told) }

  pub from_sending : {wal : Wal} {a b : D} (number : ℕ) (header : Header) (result : Result (Unit {0}) ShipError) → EndsSendingFrom d number header.number wal result a b → EndsSending d header (Number number) wal result a b
  from_sending {a = a} {b = b} number header result ends = record { bytes = ends.bytes; sends = ends.sends; are = λ was step empty told. from_ends d ends.bytes was a b number header result (ends.are was step empty told) }

  -- A store was opened first:

  still_first : (bytes : List ℕ) {a b c : D} → IsStill d a b → Sends d bytes b c → Sends d bytes a c
  still_first bytes {a = a} {b = b} still sends = sends_then [] bytes (appends_none (d.beside a).output (d.beside b).output (still.beside_stays).output) (still_sends bytes still) sends

  earlier : (was : Image) (header : Header) (start : Start) (a b c : D) (result : Result (Unit {0}) ShipError) → IsStill d a b → EndsShipping d was header start result b c → EndsShipping d was header start result a c
  earlier was header start a b c (Ok x) still (appends, next, there) = (
    appends_then [] (stream_of (shipment was header start)) (d.beside a).output (d.beside b).output (d.beside c).output
        (appends_none (d.beside a).output (d.beside b).output (still.beside_stays).output) appends,
    next,
    there,
  )
  earlier was header start a b c (Err (error.NoGroup from at)) still (is, none, not_next, here, stays) = (is, none, not_next, here, still_then still stays)
  earlier was header start a b c (Err error.Disk) still ends = ends
  earlier was header start a b c (Err error.Write) still ends = ends
  earlier was header start a b c (Err error.Memory) still ends = ends
  earlier was header start a b c (Err error.Read) still ends = ends
  earlier was header start a b c (Err error.NotAStore) still ends = ends
  earlier was header start a b c (Err error.TooMuch) still ends = ends
  earlier was header start a b c (Err (error.Damaged page)) still ends = ends
  earlier was header start a b c (Err (error.Repeat n l)) still ends = ends
  earlier was header start a b c (Err (error.Gap n l)) still ends = ends
  earlier was header start a b c (Err (error.Base n)) still ends = ends
  earlier was header start a b c (Err (error.Stream offset)) still ends = ends

  pub earlier_fault : (a b c : D) (e : ShipError) → IsStill d a b → IsFault d e b c → IsFault d e a c
  earlier_fault a b c error.Disk still fault = rose_since (d.faults a) (d.faults b) (d.faults c) still.faults_later fault
  earlier_fault a b c error.Memory still fault = tt
  earlier_fault a b c error.NotAStore still fault = tt
  earlier_fault a b c (error.Damaged page) still fault = tt
  earlier_fault a b c error.Write still fault = absurd fault
  earlier_fault a b c error.Read still fault = absurd fault
  earlier_fault a b c error.TooMuch still fault = absurd fault
  earlier_fault a b c (error.NoGroup from at) still fault = absurd fault
  earlier_fault a b c (error.Repeat n l) still fault = absurd fault
  earlier_fault a b c (error.Gap n l) still fault = absurd fault
  earlier_fault a b c (error.Base n) still fault = absurd fault
  earlier_fault a b c (error.Stream offset) still fault = absurd fault

  -- how it ends then
  pub ships : {wal : Wal} {header : Header} {a b c : D} (start : Start) (result : Result (Unit {0}) ShipError) → IsStill d a b
      → ((was : Image) → IsSettled d a was → IsInStep d wal b was × IsHeadedBy (replay was) header) → pending wal ≡ [] → EndsSending d header start wal result b c
      → ((e : ShipError) → result ≡ Err e → IsSendFault d e b c) → Ships d start result a c
  ships {header = header} {a = a} {b = b} {c = c} start result still opened empty ends fault = record {
    from = λ was settled told.
        let (step, headed) = opened was settled in
        let (part, how) = ends.are was step empty told in
        inl (record {
          header = header;
          headed = headed;
          sends = still_first (stream_of (shipment was header start)) still
              (subst (λ (l : List ℕ). Sends d l b c) part.1 (sends_prefix ends.bytes part.0 ends.sends));
          ends = earlier was header start a b c result still how;
        });
    cause = ship_sent d a c result (λ e is. fault_since [] a b c e (still_sends [] still) (fault e is));
    sends = (ends.bytes, still_first ends.bytes still ends.sends);
  }

  -- nothing was opened
  pub ships_none : {a b : D} (start : Start) (e : ShipError) → IsStill d a b → ((was : Image) → IsSettled d a was → IsUnshipped was (Err e)) → IsFault d e a b → Ships d start (Err e) a b
  ships_none {a = a} {b = b} start e still why fault = record {
    from = λ was settled told. inr (why was settled, still);
    cause = ship_unopened d a b e why fault;
    sends = ([], still_sends [] still);
  }
