use Rattle.nx_catalog.proofs.LengthLemmas.{most_bytes}
use Rattle.nx_catalog.proofs.laws.catalog_is_short.Goals as goal

pub returns : goal.returns
returns c = most_bytes
