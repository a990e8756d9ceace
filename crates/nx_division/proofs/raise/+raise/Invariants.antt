use Rattle.std.proofs.Common.{length}
use Rattle.nx_division.proofs.raise.+raise.Given as goal

abbrev pub decreases-raise : goal.decreases-raise
decreases-raise l = length l.spots.now
