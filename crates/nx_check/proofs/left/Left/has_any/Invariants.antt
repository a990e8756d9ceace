use Rattle.std.specs.Prelude.{◌≡◌, ◌+◌, ◌*◌, ◌<◌, ℕ, false}
use Rattle.nx_check.specs.Words.{is_bit_set}
use Rattle.nx_check.proofs.left.Left.has_any.Given as goal

abbrev pub invariant-loop-slot : goal.invariant-loop-slot
invariant-loop-slot l = (slot : ℕ) → slot < l.slot → is_bit_set l.self.words.items (8 * l.first + slot) ≡ false
