use Rattle.std.proofs.Common.{◌≡◌, ◌+◌, ◌≤◌, drop}
use Rattle.nx_piece.specs.Gapped.{gapped_nodes}
use Rattle.nx_piece.proofs.SizeLemmas.{one_each}
use Rattle.nx_piece.proofs.FlatLemmas.{flat_sum}
use Rattle.nx_piece.proofs.viewing.BodyView.nodes.Given as goal

abbrev pub invariant-loop-item : goal.invariant-loop-item
invariant-loop-item l =
    (l.nodes + flat_sum one_each (drop l.item-index l.item-items) ≡ gapped_nodes l.self.roots) × (gapped_nodes l.self.roots ≤ 256)
