-- Pages that begin with the same slots.
use Rattle.std.proofs.Common.{◌≡◌, ◌⊎◌, ℕ, ◌+◌, ◌-◌, ◌*◌, ◌<◌, ◌≤◌, List, ◌++◌, length, take, drop, sym, ap, subst, ◌∙◌, arith, inl, inr}
use Rattle.std.specs.Prelude.{slice_index}
use Rattle.std.proofs.lemmas.List.{take_at, length-append, length-drop, length-take-le}
use Rattle.nx_numbers.specs.Numbers.{number_at}
use Rattle.nx_numbers.proofs.Numbers.{number_at-same_prefix}
use Rattle.nx_slots.specs.Slots.{count_of, at_of, size_of, IsHeaded, IsEmptySlot, IsFullSlot, IsBefore, IsSlotted}
use Rattle.nx_slots.proofs.PackLemmas.{same_byte}

module _ (one other : List ℕ) (slotted : IsSlotted one) (long : length other ≡ 8192) (same : take (8 + 4 * count_of one) one ≡ take (8 + 4 * count_of one) other) where
  long_one : length one ≡ 8192
  long_one = slotted.headed.long

  few : 8 + 4 * count_of one ≤ 8192
  few = slotted.headed.few

  same_number : (size place : ℕ) → place + size ≤ 8 + 4 * count_of one → number_at size one place ≡ number_at size other place
  same_number size place low =
      let fits = long_one in let fits' = long in let few' = few in
      number_at-same_prefix size place (8 + 4 * count_of one) one other same low (omega arith) (omega arith)

  same_count : count_of one ≡ count_of other
  unfolding count_of
  same_count = same_number 2 2 (omega arith)

  same_at : (slot : ℕ) → slot < count_of one → at_of one slot ≡ at_of other slot
  unfolding at_of
  same_at slot low = same_number 2 (8 + 4 * slot) (omega arith)

  same_size : (slot : ℕ) → slot < count_of one → size_of one slot ≡ size_of other slot
  unfolding size_of
  same_size slot low = same_number 2 (10 + 4 * slot) (omega arith)

  byte : (i : ℕ) → i < 8 → slice_index one i ≡ slice_index other i
  byte i low = same_byte one other (8 + 4 * count_of one) i same (omega arith)

  headed : IsHeaded other
  headed = record {
    long = long;
    kind = sym (byte 0 (omega arith)) ∙ slotted.headed.kind;
    zero_byte = sym (byte 1 (omega arith)) ∙ slotted.headed.zero_byte;
    zero_bytes = sym (same_number 4 4 (omega arith)) ∙ slotted.headed.zero_bytes;
    few = subst (λ (n : ℕ). 8 + 4 * n ≤ 8192) same_count few;
  }

  slot_now : (slot : ℕ) → slot < count_of one → IsEmptySlot one slot ⊎ IsFullSlot one slot → IsEmptySlot other slot ⊎ IsFullSlot other slot
  slot_now slot low (inl none) = inl (record { at = sym (same_at slot low) ∙ none.at; size = sym (same_size slot low) ∙ none.size })
  slot_now slot low (inr some) =
      let count = same_count in let at = same_at slot low in let size = same_size slot low in
      let begins = some.some in let behind = some.behind in let within = some.within in
      inr (record { some = omega arith; behind = omega arith; within = omega arith })

  before_now : (first second : ℕ) → first < count_of one → second < count_of one → IsBefore one first second → IsBefore other first second
  before_now first second low low' is =
      let at = same_at first low in let size = same_size first low in let at' = same_at second low' in let ends = is.ends in
      record { ends = omega arith }

  -- a page with the slots of a slotted page is one
  pub same_slots : IsSlotted other
  same_slots = record {
    headed = headed;
    each = λ slot low. let count = same_count in
        let low' : slot < count_of one = omega arith in
        slot_now slot low' (slotted.each slot low');
    apart = λ first second rises low some some'.
        let count = same_count in
        let low_second : second < count_of one = omega arith in
        let low_first : first < count_of one = omega arith in
        let size = same_size first low_first in
        let size' = same_size second low_second in
        elim (slotted.apart first second rises low_second (omega arith) (omega arith)) [
          | inl is ↦ inl (before_now first second low_first low_second is)
          | inr is ↦ inr (before_now second first low_second low_first is)
        ];
    last = λ some.
        let count = same_count in
        let some' : 1 ≤ count_of one = omega arith in
        let size = same_size (count_of one - 1) (omega arith) in
        subst (λ (n : ℕ). 1 ≤ size_of other (n - 1)) count (subst (λ (n : ℕ). 1 ≤ n) size (slotted.last some'));
  }

-- the slots of a slotted page, written over those of another page
pub slots_taken : (known page slots : List ℕ) (count : ℕ) → IsSlotted page → length known ≡ 8192 → count ≡ count_of page → slots ≡ take (8 + 4 * count) page
    → IsSlotted (slots ++ drop (8 + 4 * count) known)
slots_taken known page slots count slotted long is_count is =
    let few = slotted.headed.few in let fits = slotted.headed.long in
    let fit : length slots ≡ 8 + 4 * count = ap length is ∙ length-take-le (8 + 4 * count) page (omega arith) in
    let rest : length (drop (8 + 4 * count) known) ≡ length known - (8 + 4 * count) = length-drop (8 + 4 * count) known in
    let whole : length (slots ++ drop (8 + 4 * count) known) ≡ length slots + length (drop (8 + 4 * count) known) = length-append slots (drop (8 + 4 * count) known) in
    let begins : take (8 + 4 * count) (slots ++ drop (8 + 4 * count) known) ≡ slots = take_at slots (drop (8 + 4 * count) known) (8 + 4 * count) fit in
    same_slots page (slots ++ drop (8 + 4 * count) known) slotted (omega arith)
    (subst (λ (n : ℕ). take (8 + 4 * n) page ≡ take (8 + 4 * n) (slots ++ drop (8 + 4 * count) known)) is_count (sym is ∙ sym begins))
