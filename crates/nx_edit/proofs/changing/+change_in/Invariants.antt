use Rattle.std.proofs.Common.{length}
use Rattle.nx_edit.proofs.changing.+change_in.Given as goal

abbrev pub decreases-change_in : goal.decreases-change_in
decreases-change_in g l = length l.passed.now
