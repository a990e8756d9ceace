-- The groups of a log from a number on, as they are sent one after another.
use Rattle.std.proofs.Common.{◌≡◌, ◌⊎◌, ℕ, zero, suc, ◌+◌, ◌<◌, ◌≤◌, Bool, true, false, List, [], ◌∷◌, ◌++◌, length, take, drop, get_or, None, Some, refl, sym, ap, subst, ◌∙◌, arith, inl, inr, append_assoc, append-nil}
use Rattle.std.specs.Prelude.{IsSome, ◌==◌, ◌↔◌, if◌then◌else◌, slice_get}
use Rattle.std.proofs.lemmas.Bool.{false≢true, cases_Bool}
use Rattle.std.proofs.lemmas.List.{take_all, take-append-drop}
use Rattle.std.proofs.lemmas.Option.{slice_get-get_or}
use Rattle.nx_host.specs.Disk.{Image}
use Rattle.nx_host.specs.Still.{IsStill}
use Rattle.nx_host.specs.declared.disk.Disk.{Ghosts}
use Rattle.nx_host.proofs.DiskLemmas.{none_still, still_then}
use Rattle.nx_replay.specs.Log.{Group, group_bytes, groups}
use Rattle.nx_wal.specs.Wal.{Follows, IsInStep, pending}
use Rattle.nx_wal.specs.declared.wal.Wal.{Wal}
use Rattle.nx_ship.specs.Stream.{stream_of}
use Rattle.nx_ship.specs.Sending.{from_number}
use Rattle.nx_ship.specs.Sent.{SendsMore, IsWanted, SendsWanted, StopsAtWanted, SendsGroups, StopsAtGroups, IsCutShort, IsPrefix, OfStore}
use Rattle.nx_ship.specs.declared.error.ShipError.{ShipError}
use Rattle.nx_ship.proofs.SendLemmas.{more_then, some_then, more_now, sent_none, asks_more, gives_none, some_nothing, step_sent}
use Rattle.nx_ship.proofs.SendingLemmas.{told_before, prefix_none}
use Rattle.nx_ship.proofs.PartLemmas.{told_still}

-- One group more:

pub stream-append : (gs hs : List Group) → stream_of (gs ++ hs) ≡ stream_of gs ++ stream_of hs
stream-append [] hs = refl
stream-append (g ∷ gs) hs = ap (λ (l : List ℕ). group_bytes g ++ l) (stream-append gs hs) ∙ sym (append_assoc (group_bytes g) (stream_of gs) (stream_of hs))

pub take_next : (gs : List Group) (i : ℕ) (g : Group) → slice_get gs i ≡ Some g → take (i + 1) gs ≡ take i gs ++ g ∷ []
take_next [] i g is = absurd (let h : None ≡ Some g = is in cc)
take_next (x ∷ gs) zero g is = let same : x ≡ g = (let h : Some x ≡ Some g = is in cc) in ap (λ (y : Group). y ∷ []) same
take_next (x ∷ gs) (suc i) g is =
    let count : suc i + 1 ≡ suc (i + 1) = omega arith in
    ap (λ (n : ℕ). take n (x ∷ gs)) count ∙ ap (λ (l : List Group). x ∷ l) (take_next gs i g is)

first_by : (number : ℕ) (g : Group) (gs : List Group) (b : Bool) → (g.number == number) ≡ b → from_number number (g ∷ gs) ≡ (if b then g ∷ gs else from_number number gs)
first_by number g gs b is = ap (λ (c : Bool). (if c then g ∷ gs else from_number number gs)) is

no_groups : (g : Group) (gs : List Group) → g ∷ gs ≡ [] → ⊥
no_groups g gs is = let h : g ∷ gs ≡ [] = is in cc

-- the first one was among them
pub from_found : (number : ℕ) (xs ys : List Group) → (from_number number xs ≡ [] → ⊥) → from_number number (xs ++ ys) ≡ from_number number xs ++ ys
from_found number [] ys some = absurd (some refl)
from_found number (x ∷ xs) ys some =
    elim (cases_Bool (x.number == number)) [
      | inl is ↦ first_by number x (xs ++ ys) true is ∙ ap (λ (l : List Group). l ++ ys) (sym (first_by number x xs true is))
      | inr not ↦
          first_by number x (xs ++ ys) false not ∙ from_found number xs ys (λ none. some (first_by number x xs false not ∙ none))
          ∙ ap (λ (l : List Group). l ++ ys) (sym (first_by number x xs false not))
    ]

-- it wasn't
pub from_none : (number : ℕ) (xs ys : List Group) → from_number number xs ≡ [] → from_number number (xs ++ ys) ≡ from_number number ys
from_none number [] ys none = refl
from_none number (x ∷ xs) ys none =
    elim (cases_Bool (x.number == number)) [
      | inl is ↦ absurd (no_groups x xs (sym (first_by number x xs true is) ∙ none))
      | inr not ↦ first_by number x (xs ++ ys) false not ∙ from_none number xs ys (sym (first_by number x xs false not) ∙ none)
    ]

some_behind : (gs : List Group) (g : Group) → gs ++ g ∷ [] ≡ [] → ⊥
some_behind [] g is = no_groups g [] is
some_behind (x ∷ gs) g is = no_groups x (gs ++ g ∷ []) is

grows : (number : ℕ) (xs : List Group) (g : Group) (found : Bool) → (found ≡ false) ↔ (from_number number xs ≡ []) → (found ≡ true) ⊎ ((g.number == number) ≡ true)
    → from_number number (xs ++ g ∷ []) ≡ from_number number xs ++ g ∷ []
grows number xs g true none here = from_found number xs (g ∷ []) (λ no. false≢true (sym (none.1 no)))
grows number xs g false none (inl is) = absurd (false≢true is)
grows number xs g false none (inr is) =
    let nothing : from_number number xs ≡ [] = none.0 refl in
    from_none number xs (g ∷ []) nothing ∙ first_by number g [] true is ∙ ap (λ (l : List Group). l ++ g ∷ []) (sym nothing)

found_or_none : (gs : List Group) → (gs ≡ []) ⊎ (gs ≡ [] → ⊥)
found_or_none [] = inl refl
found_or_none (g ∷ gs) = inr (no_groups g gs)

-- what is sent of the first groups is a first part of what is sent of all
from_first : (number : ℕ) (xs ys : List Group) → IsPrefix (stream_of (from_number number xs)) (stream_of (from_number number (xs ++ ys)))
from_first number xs ys =
    elim (found_or_none (from_number number xs)) [
      | inl none ↦ subst (λ (l : List Group). IsPrefix (stream_of l) (stream_of (from_number number (xs ++ ys)))) (sym none) (prefix_none (stream_of (from_number number (xs ++ ys))))
      | inr some ↦ (stream_of ys, sym (stream-append (from_number number xs) ys) ∙ ap (λ (l : List Group). stream_of l) (sym (from_found number xs ys some)))
    ]

prefix_from : (number n : ℕ) (gs : List Group) → IsPrefix (stream_of (from_number number (take n gs))) (stream_of (from_number number gs))
prefix_from number n gs =
    subst (λ (l : List Group). IsPrefix (stream_of (from_number number (take n gs))) (stream_of (from_number number l))) (take-append-drop n gs) (from_first number (take n gs) (drop n gs))

abbrev no_group : Group
no_group = record { number = 0; entries = [] }

-- of the first so many groups of the log those from the number on were sent
pub record SentUpTo {D : Type 0} (d : Ghosts D) (number : ℕ) (wal : Wal) (found : Bool) (n : ℕ) (before after : List ℕ) (old new : D) : Type 0 where
  pub bytes : List ℕ
  pub sends : SendsMore d bytes before after old new
  pub are : OfStore d wal old (λ was. IsSome (d.contents new) → (bytes ≡ stream_of (from_number number (take n (groups was.log)))) × ((found ≡ false) ↔ (from_number number (take n (groups was.log)) ≡ [])))
  pub none : found ≡ false → IsStill d old new

module _ {D : Type 0} {d : Ghosts D} where
  pub up_to_none : (number : ℕ) (wal : Wal) (block : List ℕ) (a : D) → SentUpTo d number wal false 0 block block a a
  up_to_none number wal block a = record {
    bytes = [];
    sends = gives_none block;
    are = λ was step empty told. (refl, (λ is. refl, λ is. refl));
    none = λ is. none_still;
  }

  -- the bytes of one group more
  grown : {wal : Wal} {found : Bool} {p q : List ℕ} {a b : D} (number n : ℕ) (g : Group) (sent : SentUpTo d number wal found n p q a b) (was : Image) → IsInStep d wal a was → pending wal ≡ []
      → IsSome (d.contents b) → slice_get (groups was.log) n ≡ Some g → IsWanted number found g
      → (sent.bytes ++ group_bytes g ≡ stream_of (from_number number (take (n + 1) (groups was.log)))) × (from_number number (take (n + 1) (groups was.log)) ≡ [] → ⊥)
  grown {found = found} number n g sent was step empty told here wanted =
      let (is, none) = sent.are was step empty told in
      let gs = groups was.log in
      let more : from_number number (take (n + 1) gs) ≡ from_number number (take n gs) ++ g ∷ [] =
      ap (λ (l : List Group). from_number number l) (take_next gs n g here) ∙ grows number (take n gs) g found none wanted in (
        ap (λ (l : List ℕ). l ++ group_bytes g) is ∙ ap (λ (l : List ℕ). stream_of (from_number number (take n gs)) ++ l) (sym (append-nil (group_bytes g)))
            ∙ sym (stream-append (from_number number (take n gs)) (g ∷ [])) ∙ ap (λ (l : List Group). stream_of l) (sym more),
        λ no. some_behind (from_number number (take n gs)) g (sym more ∙ no),
      )

  -- the next group was sent where it is wanted
  pub up_to_then : {wal : Wal} {found : Bool} {p q r : List ℕ} {a b c : D} (number n : ℕ) (now : Bool) → ((log : List ℕ) → Follows wal log → n < length (groups log)) → SentUpTo d number wal found n p q a b
      → SendsWanted d number n wal found now q r b c → SentUpTo d number wal now (n + 1) p r a c
  up_to_then {b = b} {c = c} number n true there sent group = record {
    bytes = sent.bytes ++ group.bytes;
    sends = more_then sent.bytes group.bytes sent.sends group.sends;
    are = λ was step empty told.
        let told_b : IsSome (d.contents b) = told_before (d.contents b) (d.contents c) ((more_now group.bytes group.sends).contents_stay) told in
        let gs = groups was.log in
        let g = get_or gs n no_group in
        let here = slice_get-get_or gs n no_group (there was.log step.follows) in
        let (wanted, all) = group.are was (step_sent _ (more_now sent.bytes sent.sends) told_b step) empty told g here in
        let (is, some) = grown number n g sent was step empty told_b here wanted in
        (ap (λ (l : List ℕ). sent.bytes ++ l) all ∙ is, (λ no. absurd (false≢true (sym no)), λ no. absurd (some no)));
    none = λ no. absurd (false≢true (sym no));
  }
  up_to_then {wal = wal} {p = p} {q = q} {a = a} {b = b} {c = c} number n false there sent (not_yet, block, still, passed) =
      let all : SentUpTo d number wal false (n + 1) p q a c = record {
        bytes = sent.bytes ++ [];
        sends = more_then sent.bytes [] sent.sends (asks_more q still);
        are = λ was step empty told.
            let told_b : IsSome (d.contents b) = told_still still told in
            let (is, none) = sent.are was step empty told_b in
            let gs = groups was.log in
            let g = get_or gs n no_group in
            let here = slice_get-get_or gs n no_group (there was.log step.follows) in
            let not_here = passed was (step_sent _ (more_now sent.bytes sent.sends) told_b step) empty g here in
            let nothing : from_number number (take n gs) ≡ [] = none.0 not_yet in
            let still_none : from_number number (take (n + 1) gs) ≡ [] =
            ap (λ (l : List Group). from_number number l) (take_next gs n g here) ∙ from_none number (take n gs) (g ∷ []) nothing ∙ first_by number g [] false not_here in (
              append-nil sent.bytes ∙ is ∙ ap (λ (l : List Group). stream_of l) nothing ∙ ap (λ (l : List Group). stream_of l) (sym still_none),
              (λ no. still_none, λ no. refl),
            );
        none = λ no. still_then (sent.none not_yet) still;
      } in
      subst (λ (l : List ℕ). SentUpTo d number wal false (n + 1) p l a c) (sym block) all

  -- all groups of the log were read
  pub up_to_end : {wal : Wal} {found : Bool} {p q : List ℕ} {a b : D} (number n : ℕ) → ((log : List ℕ) → Follows wal log → length (groups log) ≤ n) → SentUpTo d number wal found n p q a b → SendsGroups d number wal found p q a b
  up_to_end {found = found} number n all sent = record {
    sent = record {
      bytes = sent.bytes;
      sends = sent.sends;
      are = λ was step empty told.
          subst (λ (gs : List Group). (sent.bytes ≡ stream_of (from_number number gs)) × ((found ≡ false) ↔ (from_number number gs ≡ []))) (take_all n (groups was.log) (all was.log step.follows))
          (sent.are was step empty told);
    };
    none = sent.none;
  }

  -- there was no room for a part of a group
  pub up_to_unbegun : {wal : Wal} {p : List ℕ} {a : D} (number : ℕ) (e : ShipError) → IsCutShort e → StopsAtGroups d number wal e p a a
  up_to_unbegun {p = p} {a = a} number e cut = record { sent = record { bytes = []; sends = some_nothing [] p a; are = λ was step empty told. prefix_none _ }; cut = cut }

  -- the next group wasn't sent whole
  pub up_to_stopped : {wal : Wal} {found : Bool} {p q : List ℕ} {a b c : D} (number n : ℕ) (e : ShipError) → IsCutShort e → ((log : List ℕ) → Follows wal log → n < length (groups log))
      → SentUpTo d number wal found n p q a b → StopsAtWanted d number n wal found q b c → StopsAtGroups d number wal e p a c
  up_to_stopped {q = q} {b = b} {c = c} number n e cut there sent group = record {
    sent = record {
      bytes = sent.bytes ++ group.bytes;
      sends = some_then sent.bytes group.bytes sent.sends group.sends;
      are = λ was step empty told.
          let told_b : IsSome (d.contents b) = told_before (d.contents b) (d.contents c) ((group.sends q b (sent_none q b)).contents_stay) told in
          let gs = groups was.log in
          let g = get_or gs n no_group in
          let here = slice_get-get_or gs n no_group (there was.log step.follows) in
          let (is, none) = sent.are was step empty told_b in
          elim (group.are was (step_sent _ (more_now sent.bytes sent.sends) told_b step) empty told g here) [
            | inl nothing ↦
                subst (λ (l : List ℕ). IsPrefix l (stream_of (from_number number gs))) (sym (ap (λ (l : List ℕ). sent.bytes ++ l) nothing ∙ append-nil sent.bytes ∙ is)) (prefix_from number n gs)
            | inr (wanted, (more, part)) ↦
                let (all, some) = grown number n g sent was step empty told_b here wanted in
                let whole : (sent.bytes ++ group.bytes) ++ more ≡ stream_of (from_number number (take (n + 1) gs)) =
                append_assoc sent.bytes group.bytes more ∙ ap (λ (l : List ℕ). sent.bytes ++ l) part ∙ all in
                let (rest, is_all) = prefix_from number (n + 1) gs in
                (more ++ rest, sym (append_assoc (sent.bytes ++ group.bytes) more rest) ∙ ap (λ (l : List ℕ). l ++ rest) whole ∙ is_all)
          ];
    };
    cut = cut;
  }
