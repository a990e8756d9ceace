use Rattle.nx_piece.specs.Gapped.{item_count}
use Rattle.nx_piece_edits.proofs.widening.+widen_below.Given as goal

abbrev pub decreases-widen_below : goal.decreases-widen_below
decreases-widen_below l = item_count l.tree.now.below
