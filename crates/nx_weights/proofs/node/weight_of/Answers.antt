use Rattle.std.proofs.Common.{arith}
use Rattle.nx_weights.proofs.SumLemmas.{counted_near, counted_far}
use Rattle.nx_weights.proofs.node.weight_of.Goals as goal
use Rattle.nx_weights.proofs.node.weight_of.Goals.{then-content-le-LONGEST_NEAR, else-content-le-LONGEST_NEAR}

pub returns : goal.returns
returns c = elim c.if-content-le-LONGEST_NEAR.branch [
  | then-content-le-LONGEST_NEAR w ↦ omega (arith, w.if-content-le-LONGEST_NEAR, counted_near c.args.content (omega arith), c.div_ceil.ensures)
  | else-content-le-LONGEST_NEAR w ↦ omega (arith, w.if-content-le-LONGEST_NEAR, counted_far c.args.content (omega arith), c.div_ceil.ensures)
]
