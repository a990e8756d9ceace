use Rattle.std.proofs.Common.{length}
use Rattle.nx_division.proofs.settle.+settle.Given as goal

abbrev pub decreases-settle : goal.decreases-settle
decreases-settle l = length l.spots.now
