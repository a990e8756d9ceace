use Rattle.nx_layouts.proofs.PlantLemmas.{node_is_planted}
use Rattle.nx_layouts.proofs.laws.node_is_planted.Goals as goal

pub returns : goal.returns
returns c = node_is_planted
