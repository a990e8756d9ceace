use Rattle.std.proofs.Common.{length}
use Rattle.nx_division.proofs.write.+write.Given as goal

abbrev pub decreases-write : goal.decreases-write
decreases-write l = length l.spots.now
