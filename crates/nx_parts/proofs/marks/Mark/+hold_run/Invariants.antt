use Rattle.std.proofs.Common.{length}
use Rattle.nx_parts.proofs.marks.Mark.+hold_run.Given as goal

abbrev pub decreases-hold_run : goal.decreases-hold_run
decreases-hold_run l = length l.parent.now
