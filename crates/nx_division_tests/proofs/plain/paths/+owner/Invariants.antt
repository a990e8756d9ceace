use Rattle.std.proofs.Common.{length}
use Rattle.nx_division_tests.proofs.plain.paths.+owner.Given as goal

abbrev pub decreases-owner : goal.decreases-owner
decreases-owner l = length l.path.now
