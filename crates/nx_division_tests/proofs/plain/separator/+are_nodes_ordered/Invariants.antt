use Rattle.std.proofs.Common.{length}
use Rattle.nx_division_tests.proofs.plain.separator.+are_nodes_ordered.Given as goal

abbrev pub decreases-are_nodes_ordered : goal.decreases-are_nodes_ordered
decreases-are_nodes_ordered l = length l.nodes.now
