use Rattle.std.proofs.Common.{ℕ, ◌<◌, ◌≤◌, get_or}
use Rattle.nx_parts.proofs.check.first_above.Given as goal

abbrev pub invariant-loop-index : goal.invariant-loop-index
invariant-loop-index l = (j d : ℕ) → j < l.index → get_or l.weights j d ≤ l.k
