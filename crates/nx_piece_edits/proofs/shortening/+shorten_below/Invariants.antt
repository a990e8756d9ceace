use Rattle.nx_piece.specs.Gapped.{item_count}
use Rattle.nx_piece_edits.proofs.shortening.+shorten_below.Given as goal

abbrev pub decreases-shorten_below : goal.decreases-shorten_below
decreases-shorten_below l = item_count l.tree.now.below
