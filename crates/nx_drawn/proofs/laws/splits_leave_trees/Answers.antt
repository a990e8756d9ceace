use Rattle.nx_drawn.proofs.EditLaws.{splits_leave_trees}
use Rattle.nx_drawn.proofs.laws.splits_leave_trees.Goals as goal

pub returns : goal.returns
returns c = splits_leave_trees
