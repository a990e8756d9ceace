use Rattle.std.proofs.Common.{length}
use Rattle.nx_division.proofs.settle.+core.Given as goal

abbrev pub decreases-core : goal.decreases-core
decreases-core l = length l.spots.now
