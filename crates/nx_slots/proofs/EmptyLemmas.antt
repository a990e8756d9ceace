-- A slot of a page that is emptied in place.
use Rattle.std.proofs.Common.{◌≡◌, ◌⊎◌, ℕ, ◌+◌, ◌-◌, ◌*◌, ◌<◌, ◌≤◌, List, [], length, take, drop, refl, sym, ap, subst, ◌∙◌, arith, inl, inr}
use Rattle.std.specs.Prelude.{None}
use Rattle.std.proofs.lemmas.Bool.{cases_lt, cases_eq}
use Rattle.std.proofs.lemmas.List.{get_or_default, same_lists}
use Rattle.nx_numbers.proofs.Numbers.{number_at-same_prefix, number_at-with_number, length-with_number, take-with_number, drop-with_number}
use Rattle.nx_numbers.specs.Numbers.{number_at, with_number}
use Rattle.nx_slots.specs.Slots.{count_of, at_of, size_of, slot_of, slot_with, slots_of, IsSlotted, IsEmptySlot, IsFullSlot, IsBefore}
use Rattle.nx_slots.specs.Packing.{edited, IsLaid}
use Rattle.nx_slots.proofs.ReadLemmas.{length-slots_of, get_or-slots_of}
use Rattle.nx_slots.proofs.PackLemmas.{drop_same, same_byte}
use Rattle.nx_slots.proofs.EditLemmas.{length-edited, edited_here, edited_there}
use Rattle.nx_slots.proofs.AppendLemmas.{number_at-same_rest}

module _ (page mid new : List ℕ) (slot count : ℕ) (slotted : IsSlotted page) (there : slot < count_of page) (few : count ≤ count_of page)
    (last : (last : ℕ) → count ≡ last + 1 → (last ≡ slot → ⊥) × (1 ≤ size_of page last))
    (laid : IsLaid page mid slot (12 + 4 * slot) []) (is_new : new ≡ with_number 2 mid 2 count) where
  long_page : length page ≡ 8192
  long_page = slotted.headed.long

  few_slots : 8 + 4 * count_of page ≤ 8192
  few_slots = slotted.headed.few

  long_new : length new ≡ 8192
  long_new = let long = laid.long in ap length is_new ∙ length-with_number 2 mid 2 count (omega arith) ∙ long

  -- what stands behind the number of slots stays, but for the slot
  same_behind : (place : ℕ) → 4 ≤ place → drop place new ≡ drop place mid
  same_behind place high = let long = laid.long in ap (λ (r : List ℕ). drop place r) is_new ∙ drop-with_number 2 mid 2 count place (omega arith) (omega arith)

  same_rest : (place : ℕ) → 12 + 4 * slot ≤ place → drop place new ≡ drop place page
  same_rest place high = same_behind place (omega arith) ∙ drop_same mid page (12 + 4 * slot) place laid.back high

  number_kept : (size place : ℕ) → 4 ≤ place → number_at size new place ≡ number_at size mid place
  number_kept size place high =
      let long = laid.long in
      let long' = long_new in
      number_at-same_rest size place 4 new mid (same_behind 4 (omega arith)) high (omega arith) (omega arith)

  same_number : (size place : ℕ) → 4 ≤ place → (place + size ≤ 8 + 4 * slot) ⊎ (12 + 4 * slot ≤ place) → number_at size new place ≡ number_at size page place
  same_number size place high (inl below) =
      let long = long_page in
      let long' = laid.long in
      let few' = few_slots in
      number_kept size place high ∙ number_at-same_prefix size place (8 + 4 * slot) mid page laid.prefix below (omega arith) (omega arith)
  same_number size place high (inr behind) =
      let long = long_page in
      let long' = long_new in
      let few = few_slots in
      number_at-same_rest size place (12 + 4 * slot) new page (same_rest (12 + 4 * slot) (omega arith)) behind (omega arith) (omega arith)

  beside : (i : ℕ) → (i ≡ slot → ⊥) → (12 + 4 * i ≤ 8 + 4 * slot) ⊎ (12 + 4 * slot ≤ 8 + 4 * i)
  beside i other = elim (cases_lt i slot) [
    | inl below ↦ inl (omega arith)
    | inr from ↦ elim (cases_eq i slot) [
      | inl at ↦ absurd (other at)
      | inr apart ↦ inr (omega arith)
    ]
  ]

  count_now : count_of new ≡ count
  unfolding count_of
  count_now =
      let long = laid.long in
      let few' = few_slots in
      ap (λ (r : List ℕ). number_at 2 r 2) is_new ∙ number_at-with_number 2 mid 2 count (omega arith) (omega arith)

  same_at : (i : ℕ) → (i ≡ slot → ⊥) → at_of new i ≡ at_of page i
  unfolding at_of
  same_at i other = same_number 2 (8 + 4 * i) (omega arith) (elim (beside i other) [ inl below ↦ inl (omega arith) | inr behind ↦ inr (omega arith) ])

  same_size : (i : ℕ) → (i ≡ slot → ⊥) → size_of new i ≡ size_of page i
  unfolding size_of
  same_size i other = same_number 2 (10 + 4 * i) (omega arith) (elim (beside i other) [ inl below ↦ inl (omega arith) | inr behind ↦ inr (omega arith) ])

  at_none : at_of new slot ≡ 0
  unfolding at_of
  at_none = number_kept 2 (8 + 4 * slot) (omega arith) ∙ laid.at

  size_none : size_of new slot ≡ 0
  unfolding size_of
  size_none = number_kept 2 (10 + 4 * slot) (omega arith) ∙ laid.size

  -- another slot holds what it held
  same_slot : (i : ℕ) → i < count → (i ≡ slot → ⊥) → slot_of new i ≡ slot_of page i
  unfolding slot_of
  same_slot i low other = elim (slotted.each i (omega arith)) [
    | inl none ↦
        let zero : size_of page i ≡ 0 = none.size in
        let zero' : size_of new i ≡ 0 = same_size i other ∙ zero in
        rw (zero, zero') refl
    | inr full ↦
        let high = full.behind in
        ap (λ (n : ℕ). slot_with (take n (drop (at_of new i) new))) (same_size i other)
        ∙ ap (λ (n : ℕ). slot_with (take (size_of page i) (drop n new))) (same_at i other)
        ∙ ap (λ (r : List ℕ). slot_with (take (size_of page i) r)) (same_rest (at_of page i) (omega arith))
  ]

  no_slot : slot_of new slot ≡ None
  unfolding slot_of
  no_slot = let zero = size_none in rw zero refl

  pub emptied_slots : slots_of new ≡ edited page slot [] count
  emptied_slots =
      let long = length-slots_of new in
      let long' = length-edited page slot [] count in
      let counts = count_now in
      same_lists (slots_of new) (edited page slot [] count) (omega arith) (λ i d low.
      get_or_default (slots_of new) i d None low
      ∙ get_or-slots_of new i (omega arith)
      ∙ elim (cases_eq i slot) [
        | inl at ↦ rw at (no_slot ∙ sym (edited_here page slot [] count (omega arith)))
        | inr other ↦ same_slot i (omega arith) other ∙ sym (edited_there page slot [] count i (omega arith) other)
      ]
      ∙ get_or_default (edited page slot [] count) i None d (omega arith))

  kind_now : (i : ℕ) → i < count → IsEmptySlot new i ⊎ IsFullSlot new i
  kind_now i low = elim (cases_eq i slot) [
    | inl at ↦ subst (λ (n : ℕ). IsEmptySlot new n ⊎ IsFullSlot new n) (sym at) (inl record { at = at_none; size = size_none })
    | inr other ↦
        let at = same_at i other in
        let size = same_size i other in
        let counts = count_now in
        elim (slotted.each i (omega arith)) [
          | inl none ↦ inl record { at = at ∙ none.at; size = size ∙ none.size }
          | inr full ↦
              let full_some = full.some in
              let full_behind = full.behind in
              let full_within = full.within in
              inr record { some = omega arith; behind = omega arith; within = omega arith }
        ]
  ]

  -- a slot that has a record is another one
  full_is_other : (i : ℕ) → 1 ≤ size_of new i → i ≡ slot → ⊥
  full_is_other i full at = let none = size_none in let same : size_of new i ≡ size_of new slot = ap (λ (n : ℕ). size_of new n) at in omega arith

  apart_now : (one other : ℕ) → one < other → other < count → 1 ≤ size_of new one → 1 ≤ size_of new other → IsBefore new one other ⊎ IsBefore new other one
  apart_now one other before low full full' =
      let at = same_at one (full_is_other one full) in
      let size = same_size one (full_is_other one full) in
      let at' = same_at other (full_is_other other full') in
      let size' = same_size other (full_is_other other full') in
      elim (slotted.apart one other before (omega arith) (omega arith) (omega arith)) [
        | inl first ↦ let ends = first.ends in inl record { ends = omega arith }
        | inr last ↦ let ends = last.ends in inr record { ends = omega arith }
      ]

  pub emptied_slotted : IsSlotted new
  emptied_slotted =
      let counts = count_now in
      let few' = few_slots in
      let long = laid.long in
      let prefix : take 2 new ≡ take 2 mid = ap (λ (r : List ℕ). take 2 r) is_new ∙ take-with_number 2 mid 2 count 2 (omega arith) (omega arith) in
      record {
        headed = record {
          long = long_new;
          kind = same_byte new mid 2 0 prefix (omega arith) ∙ same_byte mid page (8 + 4 * slot) 0 laid.prefix (omega arith) ∙ slotted.headed.kind;
          zero_byte = same_byte new mid 2 1 prefix (omega arith) ∙ same_byte mid page (8 + 4 * slot) 1 laid.prefix (omega arith) ∙ slotted.headed.zero_byte;
          zero_bytes = same_number 4 4 (omega arith) (inl (omega arith)) ∙ slotted.headed.zero_bytes;
          few = omega arith;
        };
        each = λ i low. kind_now i (omega arith);
        apart = λ one other before low full full'. apart_now one other before (omega arith) full full';
        last = λ some.
            let e : count_of new - 1 ≡ count - 1 = omega arith in
            let own = last (count - 1) (omega arith) in
            let size = same_size (count - 1) own.0 in
            let full = own.1 in
            subst (λ (n : ℕ). 1 ≤ size_of new n) (sym e) (omega arith);
      }
