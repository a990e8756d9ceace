use Rattle.nx_tree.specs.Document.{depth}
use Rattle.nx_reach_tests.proofs.finders.+show.Given as goal

abbrev pub decreases-show : goal.decreases-show
decreases-show l = depth l.tree.now.below
