-- All pages of a store, or the groups of its log, as they are sent.
use Rattle.std.proofs.Common.{◌≡◌, ◌⊎◌, ℕ, ◌+◌, ◌-◌, ◌<◌, ◌≤◌, List, [], ◌∷◌, ◌++◌, Option, refl, sym, ap, subst, ◌∙◌, arith, inl, inr, append_assoc, append-nil}
use Rattle.std.specs.Prelude.{IsSome, Ok, Err}
use Rattle.byteorder.specs.Endian.{big_bytes}
use Rattle.nx_host.specs.Disk.{Image, Keeps}
use Rattle.nx_host.specs.declared.disk.Disk.{Ghosts}
use Rattle.nx_host.proofs.DiskLemmas.{told_same}
use Rattle.nx_replay.specs.Log.{Pages, Entry, entry_bytes, group_bytes, replay}
use Rattle.nx_wal.specs.declared.wal.Wal.{Wal}
use Rattle.nx_ship.specs.Stream.{stream_of}
use Rattle.nx_ship.specs.Shipped.{bytes_of, pages_from, all_pages_group}
use Rattle.nx_ship.specs.Sent.{SendsMore, SendsSome, SendsPage, SendsPages, StopsAtPage, StopsAtPages, IsPrefix, IsLacking, IsCutShort, page_entry, EndsSendingAll}
use Rattle.nx_ship.specs.declared.error.ShipError.{ShipError}
use Rattle.nx_ship.specs.declared.error.ShipError.TheVariants as error
use Rattle.nx_ship.proofs.SendLemmas.{more_then, some_then, more_now, more_sends, more_appends, some_sends, some_nothing, step_sent, adds_block, sent_none}
use Rattle.nx_ship.proofs.PageLemmas.{entry_bytes-append, from_next, from_split, group_parts}
use Rattle.nx_ship.proofs.WholeLemmas.{all_long}

pub told_before : (a b : Option Image) → Keeps a b → IsSome b → IsSome a
told_before a b keeps told = subst (λ (o : Option Image). IsSome o) (told_same a b keeps told) told

-- Why a page isn't sent:

pub cut_lacks : (e : ShipError) (was : Image) (count : ℕ) → IsCutShort e → IsLacking e was count
cut_lacks error.Disk was count cut = tt
cut_lacks error.Write was count cut = tt
cut_lacks error.Memory was count cut = tt
cut_lacks error.Read was count cut = cut
cut_lacks error.NotAStore was count cut = cut
cut_lacks error.TooMuch was count cut = cut
cut_lacks (error.Damaged page) was count cut = absurd cut
cut_lacks (error.NoGroup from last) was count cut = cut
cut_lacks (error.Repeat number last) was count cut = cut
cut_lacks (error.Gap number last) was count cut = cut
cut_lacks (error.Base number) was count cut = cut
cut_lacks (error.Stream offset) was count cut = cut

lacks_more : (e : ShipError) (was : Image) (n count : ℕ) → n ≤ count → IsLacking e was n → IsLacking e was count
lacks_more error.Disk was n count few lacks = tt
lacks_more error.Write was n count few lacks = tt
lacks_more error.Memory was n count few lacks = tt
lacks_more error.Read was n count few lacks = lacks
lacks_more error.NotAStore was n count few lacks = lacks
lacks_more error.TooMuch was n count few lacks = lacks
lacks_more (error.Damaged page) was n count few (low, none) = (omega (arith, low, few), none)
lacks_more (error.NoGroup from last) was n count few lacks = lacks
lacks_more (error.Repeat number last) was n count few lacks = lacks
lacks_more (error.Gap number last) was n count few lacks = lacks
lacks_more (error.Base number) was n count few lacks = lacks
lacks_more (error.Stream offset) was n count few lacks = lacks

-- First parts:

pub prefix_all : (bytes : List ℕ) → IsPrefix bytes bytes
prefix_all bytes = ([], append-nil bytes)

pub prefix_none : (bytes : List ℕ) → IsPrefix [] bytes
prefix_none bytes = (bytes, refl)

pub prefix_behind : (x y all rest : List ℕ) → IsPrefix y all → IsPrefix (x ++ y) (x ++ (all ++ rest))
prefix_behind x y all rest (more, is) =
    (more ++ rest, append_assoc x y (more ++ rest) ∙ ap (λ (l : List ℕ). x ++ l) (sym (append_assoc y more rest) ∙ ap (λ (l : List ℕ). l ++ rest) is))

-- All pages:

same_or_less : (p n : ℕ) → p ≤ n → (p ≡ n) ⊎ (p < n)
same_or_less p n low = grind arith

last_page : (pages : Pages) (n : ℕ) → pages_from pages 0 n ++ record { page = n; bytes = bytes_of pages n } ∷ [] ≡ pages_from pages 0 (n + 1)
last_page pages n =
    let here : n ≡ 0 + n = omega arith in
    ap (λ (k : ℕ). pages_from pages 0 n ++ record { page = k; bytes = bytes_of pages k } ∷ []) here ∙ sym (from_next pages 0 n)

split_at : (pages : Pages) (n count : ℕ) → n < count
    → entry_bytes (pages_from pages 0 n) ++ (entry_bytes (record { page = n; bytes = bytes_of pages n } ∷ []) ++ entry_bytes (pages_from pages (n + 1) (count - (n + 1)))) ≡ entry_bytes (pages_from pages 0 count)
split_at pages n count low =
    let m = count - (n + 1) in
    let all : (n + 1) + m ≡ count = omega (arith, low) in
    let at : 0 + (n + 1) ≡ n + 1 = omega arith in
    sym (append_assoc (entry_bytes (pages_from pages 0 n)) (entry_bytes (record { page = n; bytes = bytes_of pages n } ∷ [])) (entry_bytes (pages_from pages (n + 1) m)))
    ∙ ap (λ (l : List ℕ). l ++ entry_bytes (pages_from pages (n + 1) m)) (sym (entry_bytes-append (pages_from pages 0 n) (record { page = n; bytes = bytes_of pages n } ∷ [])) ∙ ap (λ (es : List Entry). entry_bytes es) (last_page pages n))
    ∙ sym (entry_bytes-append (pages_from pages 0 (n + 1)) (pages_from pages (n + 1) m))
    ∙ ap (λ (k : ℕ). entry_bytes (pages_from pages 0 (n + 1) ++ pages_from pages k m)) (sym at)
    ∙ ap (λ (es : List Entry). entry_bytes es) (sym (from_split pages 0 (n + 1) m)) ∙ ap (λ (k : ℕ). entry_bytes (pages_from pages 0 k)) all

below_more : {P : ℕ → Type 0} (n : ℕ) → ((p : ℕ) → p < n → P p) → P n → (p : ℕ) → p < n + 1 → P p
below_more {P = P} n below here p low =
    elim (same_or_less p n (omega (arith, low))) [
      | inl same ↦ subst P (sym same) here
      | inr less ↦ below p less
    ]

whole_bytes : (was : Image) (number count : ℕ) (bytes : List ℕ) → bytes ≡ entry_bytes (pages_from (replay was) 0 count)
    → (big_bytes 8 number ++ big_bytes 4 count) ++ bytes ≡ group_bytes (all_pages_group number (replay was) count)
whole_bytes was number count bytes is =
    ap (λ (l : List ℕ). (big_bytes 8 number ++ big_bytes 4 count) ++ l) is
    ∙ group_parts (all_pages_group number (replay was) count) (big_bytes 4 count) (ap (λ (n : ℕ). big_bytes 4 n) (sym (all_long (replay was) 0 count)))

module _ {D : Type 0} {d : Ghosts D} where
  -- what stays told
  page_kept : (x y : List ℕ) {p q : List ℕ} {a b c : D} → SendsMore d x p q a b → SendsSome d y q b c → Keeps (d.contents b) (d.contents c)
  page_kept x y {p = p} {q = q} {b = b} one two = (two q b (sent_none q b)).contents_stay

  pub pages_none : (wal : Wal) (block : List ℕ) (a : D) → SendsMore d [] block block a a → SendsPages d 0 wal block block a a
  pages_none wal block a none = record { bytes = []; sends = none; are = λ was step empty told. (refl, λ p low. absurd (omega (arith, low))) }

  pub pages_then : {wal : Wal} {p q r : List ℕ} {a b c : D} (n : ℕ) → SendsPages d n wal p q a b → SendsPage d n wal q r b c → SendsPages d (n + 1) wal p r a c
  pages_then {wal = wal} {a = a} {b = b} {c = c} n sent page = record {
    bytes = sent.bytes ++ page.bytes;
    sends = more_then sent.bytes page.bytes sent.sends page.sends;
    are = λ was step empty told.
        let told_b : IsSome (d.contents b) = told_before (d.contents b) (d.contents c) ((more_now page.bytes page.sends).contents_stay) told in
        let (is, all) = sent.are was step empty told_b in
        let (one, there) = page.are was (step_sent _ (more_now sent.bytes sent.sends) told_b step) empty told in
        let pages = replay was in
        let grown : sent.bytes ++ page.bytes ≡ entry_bytes (pages_from pages 0 (n + 1)) =
        ap (λ (l : List ℕ). l ++ page.bytes) is ∙ ap (λ (l : List ℕ). entry_bytes (pages_from pages 0 n) ++ l) one
        ∙ sym (entry_bytes-append (pages_from pages 0 n) (page_entry was n ∷ [])) ∙ ap (λ (es : List Entry). entry_bytes es) (last_page pages n) in
        (grown, below_more n all there);
  }

  pub pages_stop : {wal : Wal} {p q : List ℕ} {a b c : D} (n count : ℕ) (e : ShipError) → n < count → SendsPages d n wal p q a b → StopsAtPage d n wal e q b c → StopsAtPages d count wal e p a c
  pages_stop {wal = wal} {a = a} {b = b} {c = c} n count e low sent page = record {
    bytes = sent.bytes ++ page.bytes;
    sends = some_then sent.bytes page.bytes sent.sends page.sends;
    are = λ was step empty told.
        let told_b : IsSome (d.contents b) = told_before (d.contents b) (d.contents c) (page_kept sent.bytes page.bytes sent.sends page.sends) told in
        let (is, all) = sent.are was step empty told_b in
        let (part, lacks) = page.are was (step_sent _ (more_now sent.bytes sent.sends) told_b step) empty told in
        let pages = replay was in
        let rest = entry_bytes (pages_from pages (n + 1) (count - (n + 1))) in
        let whole : sent.bytes ++ (entry_bytes (page_entry was n ∷ []) ++ rest) ≡ entry_bytes (pages_from pages 0 count) =
        ap (λ (l : List ℕ). l ++ (entry_bytes (page_entry was n ∷ []) ++ rest)) is ∙ split_at pages n count low in
        (subst (λ (l : List ℕ). IsPrefix (sent.bytes ++ page.bytes) l) whole (prefix_behind sent.bytes page.bytes (entry_bytes (page_entry was n ∷ [])) rest part), lacks_more e was (n + 1) count (omega (arith, low)) lacks);
  }

  -- how all of it ended
  pub all_sent : {wal : Wal} {q : List ℕ} {a b c : D} (number count : ℕ) → SendsPages d count wal (big_bytes 8 number ++ big_bytes 4 count) q a b → SendsMore d [] q [] b c → EndsSendingAll d number count wal (Ok tt) a c
  all_sent {wal = wal} {a = a} {b = b} {c = c} number count pages gives =
      let head = big_bytes 8 number ++ big_bytes 4 count in
      let begun = more_then head pages.bytes (adds_block {d = d} head [] {a = a}) pages.sends in
      let all = more_then (head ++ pages.bytes) [] begun gives in
      record {
        bytes = (head ++ pages.bytes) ++ [];
        sends = more_sends ((head ++ pages.bytes) ++ []) all;
        are = λ was step empty told.
            let told_b : IsSome (d.contents b) = told_before (d.contents b) (d.contents c) ((more_now [] gives).contents_stay) told in
            let (is, there) = pages.are was step empty told_b in
            (ap (λ (l : List ℕ). l ++ []) (whole_bytes was number count pages.bytes is), more_appends ((head ++ pages.bytes) ++ []) all, there);
      }

  pub all_uncounted : {wal : Wal} {a : D} (number count : ℕ) (e : ShipError) → IsCutShort e → EndsSendingAll d number count wal (Err e) a a
  all_uncounted {a = a} number count e cut = record {
    bytes = [];
    sends = some_sends [] (some_nothing {d = d} [] [] a);
    are = λ was step empty told. (prefix_none _, cut_lacks e was count cut);
  }

  pub all_stopped : {wal : Wal} {a c : D} (number count : ℕ) (e : ShipError) → StopsAtPages d count wal e (big_bytes 8 number ++ big_bytes 4 count) a c → EndsSendingAll d number count wal (Err e) a c
  all_stopped {a = a} {c = c} number count e pages =
      let head = big_bytes 8 number ++ big_bytes 4 count in
      record {
        bytes = head ++ pages.bytes;
        sends = some_sends (head ++ pages.bytes) (some_then head pages.bytes (adds_block {d = d} head [] {a = a}) pages.sends);
        are = λ was step empty told.
            let (part, lacks) = pages.are was step empty told in
            let whole : head ++ (entry_bytes (pages_from (replay was) 0 count) ++ []) ≡ stream_of (all_pages_group number (replay was) count ∷ []) =
            sym (append_assoc head (entry_bytes (pages_from (replay was) 0 count)) []) ∙ ap (λ (l : List ℕ). l ++ []) (whole_bytes was number count (entry_bytes (pages_from (replay was) 0 count)) refl) in
            (subst (λ (l : List ℕ). IsPrefix (head ++ pages.bytes) l) whole (prefix_behind head pages.bytes (entry_bytes (pages_from (replay was) 0 count)) [] part), lacks);
      }

  pub all_ungiven : {wal : Wal} {q : List ℕ} {a b c : D} (number count : ℕ) (e : ShipError) → IsCutShort e → SendsPages d count wal (big_bytes 8 number ++ big_bytes 4 count) q a b → SendsSome d [] q b c
      → EndsSendingAll d number count wal (Err e) a c
  all_ungiven {wal = wal} {q = q} {a = a} {b = b} {c = c} number count e cut pages gives =
      let head = big_bytes 8 number ++ big_bytes 4 count in
      let begun = more_then head pages.bytes (adds_block {d = d} head [] {a = a}) pages.sends in
      record {
        bytes = (head ++ pages.bytes) ++ [];
        sends = some_sends ((head ++ pages.bytes) ++ []) (some_then (head ++ pages.bytes) [] begun gives);
        are = λ was step empty told.
            let told_b : IsSome (d.contents b) = told_before (d.contents b) (d.contents c) (page_kept (head ++ pages.bytes) [] begun gives) told in
            let (is, there) = pages.are was step empty told_b in (
              subst (λ (l : List ℕ). IsPrefix ((head ++ pages.bytes) ++ []) l) (ap (λ (l : List ℕ). l ++ []) (whole_bytes was number count pages.bytes is)) (prefix_all ((head ++ pages.bytes) ++ [])),
              cut_lacks e was count cut,
            );
      }
