use Rattle.nx_drawn.proofs.GrowthLemmas.{insert_grows_little}
use Rattle.nx_drawn.proofs.laws.insert_grows_little.Goals as goal

pub returns : goal.returns
returns c = insert_grows_little
