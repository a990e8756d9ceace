use Rattle.nx_tree.specs.Forest.{forest_of}
use Rattle.nx_tree.specs.Document.{depth}
use Rattle.nx_parts.proofs.WalkLemmas.{OwedSoFar}
use Rattle.nx_parts.proofs.weigh.+add_owned.Given as goal

abbrev pub decreases-add_owned : goal.decreases-add_owned
decreases-add_owned l = depth (forest_of l.children.now)

abbrev pub invariant-loop-position : goal.invariant-loop-position
invariant-loop-position l = OwedSoFar l.marks l.above l.position l.fn.sums l.sums l.children
