use Rattle.nx_drawn.proofs.SplitLemmas.{light_stays}
use Rattle.nx_drawn.proofs.laws.light_stays.Goals as goal

pub returns : goal.returns
returns c = light_stays
