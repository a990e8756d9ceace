use Rattle.std.proofs.Common.{length}
use Rattle.nx_division_tests.proofs.plain.plans.+are_disjoint.Given as goal

abbrev pub decreases-are_disjoint : goal.decreases-are_disjoint
decreases-are_disjoint l = length l.parts.now
