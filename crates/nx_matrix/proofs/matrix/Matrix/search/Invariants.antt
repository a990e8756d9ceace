use Rattle.std.proofs.Common.{◌-◌}
use Rattle.nx_matrix.specs.Label.{behind_mark}
use Rattle.nx_matrix.proofs.OrderLemmas.{LiesBetween}
use Rattle.nx_matrix.proofs.matrix.Matrix.search.Given as goal

abbrev pub invariant-loop-low : goal.invariant-loop-low
invariant-loop-low l = LiesBetween l.self (behind_mark l.parent_mark l.parent, behind_mark l.child_mark l.child) l.low l.high

abbrev pub decreases-loop-low : goal.decreases-loop-low
decreases-loop-low l = l.high - l.low
