use Rattle.std.proofs.Common.{◌≡◌, take}
use Rattle.nx_tree.specs.Document.{depth}
use Rattle.nx_tree.proofs.tree.copying.+copy_tree.Given as goal

abbrev pub decreases-copy_tree : goal.decreases-copy_tree
decreases-copy_tree l = depth l.tree.now.below

abbrev pub invariant-loop-child : goal.invariant-loop-child
invariant-loop-child l = l.trees.items ≡ take l.child-index l.children
