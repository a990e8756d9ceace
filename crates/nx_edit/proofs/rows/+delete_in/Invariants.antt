use Rattle.std.proofs.Common.{length}
use Rattle.nx_edit.proofs.rows.+delete_in.Given as goal

abbrev pub decreases-delete_in : goal.decreases-delete_in
decreases-delete_in g l = length l.passed.now
