use Rattle.std.proofs.Common.{◌≡◌, ◌+◌, drop}
use Rattle.nx_piece.specs.PieceNode.{item_slots}
use Rattle.nx_piece.specs.Gapped.{gapped_size, item_count}
use Rattle.nx_piece.specs.Items.{gapped_of}
use Rattle.nx_piece.proofs.weighing.+tree_size.Given as goal

abbrev pub decreases-tree_size : goal.decreases-tree_size
decreases-tree_size l = item_count l.tree.now.below

abbrev pub invariant-loop-item : goal.invariant-loop-item
invariant-loop-item l =
    l.sum + gapped_size (gapped_of (drop l.item-index l.item-items)) ≡ item_slots l.tree.node + gapped_size l.tree.below
