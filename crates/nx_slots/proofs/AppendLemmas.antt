-- A record that is laid below the others of a page, in a new slot.
use Rattle.std.proofs.Common.{◌≡◌, ◌⊎◌, ℕ, ◌+◌, ◌-◌, ◌*◌, ◌<◌, ◌≤◌, List, length, take, drop, refl, sym, ap, subst, ◌∙◌, arith, inl, inr}
use Rattle.std.specs.Prelude.{None, slice_index_or}
use Rattle.std.proofs.lemmas.Bool.{cases_lt}
use Rattle.std.proofs.lemmas.List.{get_or_default, same_lists, length-take-le, take-append-drop}
use Rattle.nx_numbers.proofs.Numbers.{number_at-back, number_at-same_prefix, number_at-with_number, length-with_number, take-with_number, drop-with_number}
use Rattle.nx_numbers.specs.Numbers.{number_at, with_number}
use Rattle.nx_slots.specs.Slots.{count_of, at_of, size_of, slot_of, slot_with, slots_of, IsSlotted, IsEmptySlot, IsFullSlot, IsBefore}
use Rattle.nx_slots.specs.Packing.{edited, IsLaid}
use Rattle.nx_slots.proofs.ReadLemmas.{length-slots_of, get_or-slots_of}
use Rattle.nx_slots.proofs.PackLemmas.{drop_same, same_byte, offset_some}
use Rattle.nx_slots.proofs.EditLemmas.{length-edited, edited_here, edited_there}

-- pages with the same rest have the same numbers in it
pub number_at-same_rest : (size place m : ℕ) (one other : List ℕ) → drop m one ≡ drop m other → m ≤ place → m ≤ length one → m ≤ length other
    → number_at size one place ≡ number_at size other place
number_at-same_rest size place m one other same high fits fits' =
    let long = length-take-le m one fits in
    let long' = length-take-le m other fits' in
    ap (λ (r : List ℕ). number_at size r place) (sym (take-append-drop m one))
    ∙ number_at-back size (place - m) place (take m one) (drop m one) (omega arith)
    ∙ ap (λ (r : List ℕ). number_at size r (place - m)) same
    ∙ sym (number_at-back size (place - m) place (take m other) (drop m other) (omega arith))
    ∙ ap (λ (r : List ℕ). number_at size r place) (take-append-drop m other)

module _ (page mid new : List ℕ) (count start : ℕ) (bytes : List ℕ) (slotted : IsSlotted page) (counted : count ≡ count_of page) (some : 1 ≤ length bytes)
    (within : start ≤ 8192) (behind : (i : ℕ) → i < count_of page → 1 ≤ size_of page i → start ≤ at_of page i) (room : 12 + 4 * count + length bytes ≤ start)
    (is_mid : mid ≡ with_number 2 page 2 (count + 1)) (laid : IsLaid mid new count start bytes) where
  long_page : length page ≡ 8192
  long_page = slotted.headed.long

  long_mid : length mid ≡ 8192
  long_mid = let long = long_page in ap length is_mid ∙ length-with_number 2 page 2 (count + 1) (omega arith) ∙ long

  same_behind : drop 4 mid ≡ drop 4 page
  same_behind = let long = long_page in ap (λ (r : List ℕ). drop 4 r) is_mid ∙ drop-with_number 2 page 2 (count + 1) 4 (omega arith) (omega arith)

  -- what stands behind the number of slots and in front of the new slot stays
  same_number : (size place : ℕ) → 4 ≤ place → place + size ≤ 8 + 4 * count → number_at size new place ≡ number_at size page place
  same_number size place high low =
      let long = long_page in
      let long' = long_mid in
      let long'' = laid.long in
      number_at-same_prefix size place (8 + 4 * count) new mid laid.prefix low (omega arith) (omega arith)
      ∙ number_at-same_rest size place 4 mid page same_behind high (omega arith) (omega arith)

  -- and so do all records
  same_rest : (place : ℕ) → start ≤ place → drop place new ≡ drop place page
  same_rest place high =
      let long = long_page in
      drop_same new mid start place laid.back high
      ∙ ap (λ (r : List ℕ). drop place r) is_mid ∙ drop-with_number 2 page 2 (count + 1) place (omega arith) (omega arith)

  count_appended : count_of new ≡ count + 1
  unfolding count_of
  count_appended =
      let long = long_page in
      let long' = long_mid in
      let long'' = laid.long in
      number_at-same_prefix 2 2 (8 + 4 * count) new mid laid.prefix (omega arith) (omega arith) (omega arith)
      ∙ ap (λ (r : List ℕ). number_at 2 r 2) is_mid
      ∙ number_at-with_number 2 page 2 (count + 1) (omega arith) (omega arith)

  same_at : (i : ℕ) → i < count → at_of new i ≡ at_of page i
  unfolding at_of
  same_at i low = same_number 2 (8 + 4 * i) (omega arith) (omega arith)

  same_size : (i : ℕ) → i < count → size_of new i ≡ size_of page i
  unfolding size_of
  same_size i low = same_number 2 (10 + 4 * i) (omega arith) (omega arith)

  new_at : at_of new count ≡ start - length bytes
  new_at = laid.at ∙ offset_some bytes (start - length bytes) some

  -- an earlier slot holds what it held
  same_slot : (i : ℕ) → i < count → slot_of new i ≡ slot_of page i
  unfolding slot_of
  same_slot i low = elim (cases_lt 0 (size_of page i)) [
    | inl full ↦
        ap (λ (n : ℕ). slot_with (take n (drop (at_of new i) new))) (same_size i low)
        ∙ ap (λ (n : ℕ). slot_with (take (size_of page i) (drop n new))) (same_at i low)
        ∙ ap (λ (r : List ℕ). slot_with (take (size_of page i) r)) (same_rest (at_of page i) (behind i (omega (arith, low, counted)) full))
    | inr none ↦
        let zero : size_of page i ≡ 0 = omega arith in
        let zero' : size_of new i ≡ 0 = same_size i low ∙ zero in
        rw (zero, zero') refl
  ]

  new_slot : slot_of new count ≡ slot_with bytes
  unfolding slot_of
  new_slot =
      ap (λ (n : ℕ). slot_with (take n (drop (at_of new count) new))) laid.size
      ∙ ap (λ (n : ℕ). slot_with (take (length bytes) (drop n new))) new_at
      ∙ ap slot_with laid.laid

  pub appended_slots : slots_of new ≡ edited page count bytes (count + 1)
  appended_slots =
      let long = length-slots_of new in
      let long' = length-edited page count bytes (count + 1) in
      let counts = count_appended in
      same_lists (slots_of new) (edited page count bytes (count + 1)) (omega arith) (λ i d low.
      get_or_default (slots_of new) i d None low
      ∙ get_or-slots_of new i (omega arith)
      ∙ elim (cases_lt i count) [
        | inl earlier ↦ same_slot i earlier ∙ sym (edited_there page count bytes (count + 1) i (omega arith) (λ e. omega arith))
        | inr at ↦
            let e : count ≡ i = omega arith in
            subst (λ (n : ℕ). slot_of new n ≡ slice_index_or (edited page count bytes (count + 1)) n None) e
            (new_slot ∙ sym (edited_here page count bytes (count + 1) (omega arith)))
      ]
      ∙ get_or_default (edited page count bytes (count + 1)) i None d (omega arith))

  same_kind : (i : ℕ) → i < count → IsEmptySlot new i ⊎ IsFullSlot new i
  same_kind i low =
      let at = same_at i low in
      let size = same_size i low in
      let counts = count_appended in
      elim (slotted.each i (omega arith)) [
        | inl none ↦ inl record { at = at ∙ none.at; size = size ∙ none.size }
        | inr full ↦
            let full_some = full.some in
            let full_within = full.within in
            let high = behind i (omega arith) full.some in
            inr record { some = omega arith; behind = omega arith; within = omega arith }
      ]

  new_kind : IsFullSlot new count
  new_kind =
      let at = new_at in
      let size = laid.size in
      let counts = count_appended in
      record { some = omega arith; behind = omega arith; within = omega arith }

  new_apart : (i : ℕ) → i < count → 1 ≤ size_of new i → IsBefore new count i
  new_apart i low full =
      let at = new_at in
      let size = laid.size in
      let at' = same_at i low in
      let size' = same_size i low in
      let high = behind i (omega arith) (omega arith) in
      record { ends = omega arith }

  same_apart : (one other : ℕ) → one < other → other < count → 1 ≤ size_of new one → 1 ≤ size_of new other → IsBefore new one other ⊎ IsBefore new other one
  same_apart one other before low full full' =
      let at = same_at one (omega arith) in
      let size = same_size one (omega arith) in
      let at' = same_at other low in
      let size' = same_size other low in
      elim (slotted.apart one other before (omega arith) (omega arith) (omega arith)) [
        | inl first ↦ let ends = first.ends in inl record { ends = omega arith }
        | inr last ↦ let ends = last.ends in inr record { ends = omega arith }
      ]

  pub appended_slotted : IsSlotted new
  appended_slotted =
      let counts = count_appended in
      let long = long_page in
      let mid_prefix : take 2 mid ≡ take 2 page = ap (λ (r : List ℕ). take 2 r) is_mid ∙ take-with_number 2 page 2 (count + 1) 2 (omega arith) (omega arith) in
      record {
        headed = record {
          long = laid.long;
          kind = same_byte new mid (8 + 4 * count) 0 laid.prefix (omega arith) ∙ same_byte mid page 2 0 mid_prefix (omega arith) ∙ slotted.headed.kind;
          zero_byte = same_byte new mid (8 + 4 * count) 1 laid.prefix (omega arith) ∙ same_byte mid page 2 1 mid_prefix (omega arith) ∙ slotted.headed.zero_byte;
          zero_bytes = same_number 4 4 (omega arith) (omega arith) ∙ slotted.headed.zero_bytes;
          few = omega arith;
        };
        each = λ i low. elim (cases_lt i count) [
          | inl earlier ↦ same_kind i earlier
          | inr at ↦
              let e : count ≡ i = omega arith in
              subst (λ (n : ℕ). IsEmptySlot new n ⊎ IsFullSlot new n) e (inr new_kind)
        ];
        apart = λ one other before low full full'. elim (cases_lt other count) [
          | inl earlier ↦ same_apart one other before earlier full full'
          | inr at ↦
              let e : count ≡ other = omega arith in
              subst (λ (n : ℕ). IsBefore new one n ⊎ IsBefore new n one) e (inr (new_apart one (omega arith) full))
        ];
        last = λ some_slot.
            let e : count ≡ count_of new - 1 = omega arith in
            let size = laid.size in
            subst (λ (n : ℕ). 1 ≤ size_of new n) e (omega arith);
      }
