use Rattle.std.proofs.Common.{length}
use Rattle.nx_division_tests.proofs.sketches.+weigh.Given as goal

abbrev pub decreases-weigh : goal.decreases-weigh
decreases-weigh l = length l.spots.now
