use Rattle.nx_steps.proofs.RequestLemmas.{transactions_edit_trees}
use Rattle.nx_steps.proofs.laws.transactions_edit_trees.Goals as goal

pub returns : goal.returns
returns c = transactions_edit_trees
