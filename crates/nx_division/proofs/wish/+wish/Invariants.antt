use Rattle.std.proofs.Common.{length}
use Rattle.nx_division.proofs.wish.+wish.Given as goal

abbrev pub decreases-wish : goal.decreases-wish
decreases-wish l = length l.spots.now
