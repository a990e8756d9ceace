use Rattle.std.proofs.Common.{length}
use Rattle.nx_division.proofs.write.+end.Given as goal

abbrev pub decreases-end : goal.decreases-end
decreases-end l = length l.spots.now
