use Rattle.nx_drawn.proofs.PlacementLemmas.{removes_runs}
use Rattle.nx_drawn.proofs.laws.removes_runs.Goals as goal

pub returns : goal.returns
returns c = removes_runs
