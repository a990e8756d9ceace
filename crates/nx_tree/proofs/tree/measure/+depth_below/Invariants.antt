use Rattle.std.proofs.Common.{◌≡◌, max, drop}
use Rattle.nx_tree.specs.Forest.{forest_of}
use Rattle.nx_tree.specs.Document.{depth}
use Rattle.nx_tree.proofs.tree.measure.+depth_below.Given as goal

abbrev pub decreases-depth_below : goal.decreases-depth_below
decreases-depth_below l = depth l.tree.now.below

abbrev pub invariant-loop-child : goal.invariant-loop-child
invariant-loop-child l = max l.greatest (depth (forest_of (drop l.child-index l.child-items))) ≡ depth l.tree.below
