use Rattle.std.proofs.Common.{ℕ, ◌<◌, ◌≤◌}
use Rattle.nx_slots.specs.Slots.{at_of, size_of}
use Rattle.nx_slots.proofs.appending.records_start.Given as goal

abbrev pub invariant-loop-i : goal.invariant-loop-i
invariant-loop-i l = record {
  within : l.start ≤ 8192;
  behind : (j : ℕ) → j < l.i → 1 ≤ size_of l.page j → l.start ≤ at_of l.page j;
}
