use Rattle.std.proofs.Common.{◌≡◌, ℕ, ◌<◌}
use Rattle.std.specs.Prelude.{slice_index}
use Rattle.nx_chain.proofs.are_zero.Given as goal

abbrev pub invariant-loop-i : goal.invariant-loop-i
invariant-loop-i l = record {
  zero : l.found ≡ 0 → (j : ℕ) → j < l.i → slice_index l.bytes j ≡ 0;
  none : ((j : ℕ) → j < l.i → slice_index l.bytes j ≡ 0) → l.found ≡ 0;
}
