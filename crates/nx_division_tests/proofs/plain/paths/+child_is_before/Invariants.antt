use Rattle.std.proofs.Common.{length}
use Rattle.nx_division_tests.proofs.plain.paths.+child_is_before.Given as goal

abbrev pub decreases-child_is_before : goal.decreases-child_is_before
decreases-child_is_before l = length l.parent.now
