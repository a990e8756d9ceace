use Rattle.std.proofs.Common.{length}
use Rattle.nx_piece_edits.proofs.setting.+edit_below.Given as goal

abbrev pub decreases-edit_below : goal.decreases-edit_below
decreases-edit_below l = length l.path.now
