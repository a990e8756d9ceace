use Rattle.nx_layouts.proofs.DivideLemmas.{root_is_planted}
use Rattle.nx_layouts.proofs.laws.root_is_planted.Goals as goal

pub returns : goal.returns
returns c = root_is_planted
