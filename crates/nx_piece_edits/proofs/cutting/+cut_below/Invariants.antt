use Rattle.std.proofs.Common.{length}
use Rattle.nx_piece_edits.proofs.cutting.+cut_below.Given as goal

abbrev pub decreases-cut_below : goal.decreases-cut_below
decreases-cut_below l = length l.path.now
