use Rattle.nx_layouts.proofs.PlantLemmas.{interval_is_planted}
use Rattle.nx_layouts.proofs.laws.interval_is_planted.Goals as goal

pub returns : goal.returns
returns c = interval_is_planted
