use Rattle.nx_catalog.proofs.CatalogLemmas.{one_contents}
use Rattle.nx_catalog.proofs.laws.one_catalog.Goals as goal

pub returns : goal.returns
returns c = one_contents
