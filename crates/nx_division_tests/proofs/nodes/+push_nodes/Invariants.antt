use Rattle.std.proofs.Common.{length}
use Rattle.nx_division_tests.proofs.nodes.+push_nodes.Given as goal

abbrev pub decreases-push_nodes : goal.decreases-push_nodes
decreases-push_nodes l = length l.spots.now
