use Rattle.nx_layouts.proofs.RunLemmas.{runs_after}
use Rattle.nx_layouts.proofs.laws.runs_after.Goals as goal

pub returns : goal.returns
returns c = runs_after
