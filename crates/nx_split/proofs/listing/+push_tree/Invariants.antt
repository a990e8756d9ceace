use Rattle.std.proofs.Common.{◌≡◌, ◌+◌, ◌≤◌, ◌++◌, drop}
use Rattle.nx_piece.specs.PieceNode.{node_weight}
use Rattle.nx_piece.specs.Gapped.{gapped_size, gapped_weight, item_count}
use Rattle.nx_piece.specs.Valid.{AreFar}
use Rattle.nx_piece.specs.Items.{gapped_of}
use Rattle.nx_piece.proofs.LocateLemmas.{IsCounted}
use Rattle.nx_sketch.specs.Sketch.{spots_of}
use Rattle.nx_split.specs.Piece.{asked, sketch_in}
use Rattle.nx_split.proofs.ListLemmas.{IsListed}
use Rattle.nx_split.proofs.listing.+push_tree.Given as goal

abbrev pub decreases-push_tree : goal.decreases-push_tree
decreases-push_tree l = item_count l.tree.now.below

abbrev pub invariant-loop-item : goal.invariant-loop-item
invariant-loop-item l = record {
  counted : IsCounted l.proxies l.first l.tree.below l.before l.next (gapped_of (drop l.item-index l.item-items));
  light : node_weight l.tree.node + gapped_weight l.tree.below ≤ 67108864;
  far : AreFar (gapped_of (drop l.item-index l.item-items));
  small : gapped_size (gapped_of (drop l.item-index l.item-items)) ≤ 512;
  weighed : l.within + gapped_weight (gapped_of (drop l.item-index l.item-items)) ≡ node_weight l.tree.node + gapped_weight l.tree.below;
  listed : IsListed l.matrix l.proxies (asked l.matrix l.tree.node.node) l.before l.next (gapped_of (drop l.item-index l.item-items)) l.spots.items (l.initial.spots.items ++ spots_of (sketch_in l.matrix l.proxies (asked l.matrix l.tree.node.node) l.first 0 l.tree.below));
}
