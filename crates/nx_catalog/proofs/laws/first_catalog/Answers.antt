use Rattle.nx_catalog.proofs.CatalogLemmas.{first_is}
use Rattle.nx_catalog.proofs.laws.first_catalog.Goals as goal

pub returns : goal.returns
returns c = first_is
