use Rattle.std.specs.Prelude.{◌≡◌, ◌<◌, ℕ, true, slice_index}
use Rattle.nx_slots.proofs.known.are_same.Given as goal

abbrev pub invariant-loop-i : goal.invariant-loop-i
invariant-loop-i l = l.same ≡ true → (j : ℕ) → j < l.i → slice_index l.one j ≡ slice_index l.other j
