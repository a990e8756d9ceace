use Rattle.nx_tree.specs.Document.{depth}
use Rattle.nx_plan_tests.proofs.trial.plain.+push_placed.Given as goal

abbrev pub decreases-push_placed : goal.decreases-push_placed
decreases-push_placed l = depth l.tree.now.below
