use Rattle.std.proofs.Common.{ℕ, ◌<◌, get_or}
use Rattle.std.specs.Prelude.{IsTrue}
use Rattle.nx_parts.specs.declared.interval.Interval.{Interval}
use Rattle.nx_parts.specs.Partitioning.{is_in_tree}
use Rattle.nx_parts.proofs.check.first_outside.Given as goal

abbrev pub invariant-loop-index : goal.invariant-loop-index
invariant-loop-index l = (j : ℕ) (d : Interval) → j < l.index → IsTrue (is_in_tree l.tree (get_or l.intervals j d))
