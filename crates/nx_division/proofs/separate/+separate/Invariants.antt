use Rattle.std.proofs.Common.{length}
use Rattle.nx_division.proofs.separate.+separate.Given as goal

abbrev pub decreases-separate : goal.decreases-separate
decreases-separate l = length l.spots.now
