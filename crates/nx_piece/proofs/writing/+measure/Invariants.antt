use Rattle.std.proofs.Common.{◌+◌, drop}
use Rattle.nx_piece.specs.PieceNode.{item_slots}
use Rattle.nx_piece.specs.Gapped.{item_count, slots_in}
use Rattle.nx_piece.specs.Items.{gapped_of}
use Rattle.nx_piece.proofs.WalkLemmas.{IsMeasured}
use Rattle.nx_piece.proofs.writing.+measure.Given as goal

abbrev pub decreases-measure : goal.decreases-measure
decreases-measure l = item_count l.tree.now.below

abbrev pub invariant-loop-item : goal.invariant-loop-item
invariant-loop-item l =
    IsMeasured l.extent.items l.extent.slots (gapped_of (drop l.item-index l.item-items)) (1 + item_count l.tree.below) (item_slots l.tree.node + slots_in l.tree.below)
