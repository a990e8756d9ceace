use Rattle.nx_layouts.proofs.AboveLemmas.{above_stands}
use Rattle.nx_layouts.proofs.laws.above_stands.Goals as goal

pub returns : goal.returns
returns c = above_stands
