use Rattle.std.proofs.Common.{◌≡◌, ◌+◌, ◌≤◌, drop}
use Rattle.nx_piece.specs.PieceNode.{node_weight, item_slots}
use Rattle.nx_piece.specs.Gapped.{gapped_weight}
use Rattle.nx_piece.proofs.FlatLemmas.{flat_sum, AreFlatFar}
use Rattle.nx_piece.proofs.viewing.BodyView.weight.Given as goal

abbrev pub invariant-loop-item : goal.invariant-loop-item
invariant-loop-item l =
    (l.weight + flat_sum node_weight (drop l.item-index l.item-items) ≡ gapped_weight l.self.roots) × (flat_sum item_slots (drop l.item-index l.item-items) ≤ 256) × AreFlatFar (drop l.item-index l.item-items) × (gapped_weight l.self.roots ≤ 33554432)
