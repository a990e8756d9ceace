use Rattle.nx_drawn.proofs.PlacementLemmas.{plants_runs}
use Rattle.nx_drawn.proofs.laws.plants_runs.Goals as goal

pub returns : goal.returns
returns c = plants_runs
