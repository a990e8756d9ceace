use Rattle.std.proofs.Common.{◌≡◌, ◌+◌, ◌≤◌, drop}
use Rattle.nx_piece.specs.Gapped.{gapped_nodes, gapped_size, item_count}
use Rattle.nx_piece.specs.Items.{gapped_of}
use Rattle.nx_piece.proofs.weighing.+count_nodes.Given as goal

abbrev pub decreases-count_nodes : goal.decreases-count_nodes
decreases-count_nodes l = item_count l.tree.now.below

abbrev pub invariant-loop-item : goal.invariant-loop-item
invariant-loop-item l =
    (l.nodes + gapped_nodes (gapped_of (drop l.item-index l.item-items)) ≡ 1 + gapped_nodes l.tree.below) × (gapped_size (gapped_of (drop l.item-index l.item-items)) ≤ 512)
