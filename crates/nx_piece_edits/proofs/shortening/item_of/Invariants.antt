use Rattle.nx_piece_edits.proofs.ShortLemmas.{IsOnItems}
use Rattle.nx_piece_edits.proofs.shortening.item_of.Given as goal

abbrev pub invariant-loop-place : goal.invariant-loop-place
invariant-loop-place l = IsOnItems l.items l.index l.left l.place
