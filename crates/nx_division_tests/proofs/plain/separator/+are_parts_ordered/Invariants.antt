use Rattle.std.proofs.Common.{length}
use Rattle.nx_division_tests.proofs.plain.separator.+are_parts_ordered.Given as goal

abbrev pub decreases-are_parts_ordered : goal.decreases-are_parts_ordered
decreases-are_parts_ordered l = length l.parts.now
