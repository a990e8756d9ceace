use Rattle.nx_state.proofs.ChangeLemmas.{catalog_comes}
use Rattle.nx_state.proofs.laws.catalog_comes.Goals as goal

pub returns : goal.returns
returns c = catalog_comes
