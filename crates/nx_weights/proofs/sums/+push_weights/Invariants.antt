use Rattle.nx_tree.specs.Document.{depth}
use Rattle.nx_weights.proofs.SumLemmas.{SumsUp}
use Rattle.nx_weights.proofs.sums.+push_weights.Given as goal

abbrev pub decreases-push_weights : goal.decreases-push_weights
decreases-push_weights l = depth l.tree.now.below

abbrev pub invariant-loop-child : goal.invariant-loop-child
invariant-loop-child l = SumsUp l.sum l.child-index l.weights.items l.fn.weights.items l.child-items l.tree
