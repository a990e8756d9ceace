use Rattle.nx_tree.specs.Document.{depth}
use Rattle.nx_reach_tests.proofs.finders.+holds.Given as goal

abbrev pub decreases-holds : goal.decreases-holds
decreases-holds l = depth l.tree.now.below
