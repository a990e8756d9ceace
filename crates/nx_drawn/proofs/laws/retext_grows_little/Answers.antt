use Rattle.nx_drawn.proofs.GrowthLemmas.{retext_grows_little}
use Rattle.nx_drawn.proofs.laws.retext_grows_little.Goals as goal

pub returns : goal.returns
returns c = retext_grows_little
