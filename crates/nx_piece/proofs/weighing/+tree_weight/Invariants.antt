use Rattle.std.proofs.Common.{◌≡◌, ◌+◌, drop}
use Rattle.nx_piece.specs.PieceNode.{node_weight}
use Rattle.nx_piece.specs.Gapped.{gapped_weight, item_count}
use Rattle.nx_piece.specs.Items.{gapped_of}
use Rattle.nx_piece.specs.Weight.{HaveShortNodes}
use Rattle.nx_piece.proofs.weighing.+tree_weight.Given as goal

abbrev pub decreases-tree_weight : goal.decreases-tree_weight
decreases-tree_weight l = item_count l.tree.now.below

abbrev pub invariant-loop-item : goal.invariant-loop-item
invariant-loop-item l =
    (l.sum + gapped_weight (gapped_of (drop l.item-index l.item-items)) ≡ node_weight l.tree.node + gapped_weight l.tree.below) × HaveShortNodes (gapped_of (drop l.item-index l.item-items))
