use Rattle.nx_tree.specs.Document.{depth}
use Rattle.nx_bounds.proofs.WalkLemmas.{Walked}
use Rattle.nx_bounds.proofs.support.+check_tree.Given as goal

abbrev pub decreases-check_tree : goal.decreases-check_tree
decreases-check_tree l = depth l.tree.now.below

abbrev pub invariant-loop-child : goal.invariant-loop-child
invariant-loop-child l = Walked l.k l.tree l.bounds l.place l.child-items l.child-index l.next
