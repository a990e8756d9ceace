use Rattle.std.specs.Prelude.{◌≡◌, ◌+◌, ◌*◌, ◌<◌, ◌≤◌, ℕ, false, None, is_some, slice_index_or, length}
use Rattle.nx_slots.specs.Slots.{slots_of}
use Rattle.nx_check.specs.Words.{is_bit_set}
use Rattle.nx_check.proofs.left.Left.add_page.Given as goal

abbrev pub invariant-loop-slot : goal.invariant-loop-slot
invariant-loop-slot l = record {
  long : length l.self.words.items ≡ length l.initial.self.words.items;
  stay : (i : ℕ) → i < 8 * l.first → is_bit_set l.self.words.items i ≡ is_bit_set l.fn.self.words.items i;
  here : (slot : ℕ) → slot < l.slot → is_bit_set l.self.words.items (8 * l.first + slot) ≡ is_some (slice_index_or (slots_of l.bytes.bytes) slot None);
  rest : (slot : ℕ) → l.slot ≤ slot → is_bit_set l.self.words.items (8 * l.first + slot) ≡ false;
}
