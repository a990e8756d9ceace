use Rattle.nx_drawn.proofs.GrowthLemmas.{plant_grows_little}
use Rattle.nx_drawn.proofs.laws.plant_grows_little.Goals as goal

pub returns : goal.returns
returns c = plant_grows_little
