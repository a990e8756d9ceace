use Rattle.std.proofs.Common.{◌≡◌, take}
use Rattle.nx_matrix.proofs.matrix.Matrix.rules.Given as goal

abbrev pub invariant-loop-rule : goal.invariant-loop-rule
invariant-loop-rule l = l.rules ≡ take l.rule-index l.rule-items
