use Rattle.nx_layouts.proofs.WithoutLemmas.{tree_goes_out}
use Rattle.nx_layouts.proofs.laws.tree_goes_out.Goals as goal

pub returns : goal.returns
returns c = tree_goes_out
