use Rattle.nx_steps.proofs.RequestLemmas.{request_runs_edit_trees}
use Rattle.nx_steps.proofs.laws.request_runs_edit_trees.Goals as goal

pub returns : goal.returns
returns c = request_runs_edit_trees
