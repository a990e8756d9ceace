use Rattle.nx_steps.proofs.RunLemmas.{runs_edit_trees}
use Rattle.nx_steps.proofs.laws.runs_edit_trees.Goals as goal

pub returns : goal.returns
returns c = runs_edit_trees
