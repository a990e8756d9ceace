use Rattle.nx_catalog.proofs.LengthLemmas.{same_length}
use Rattle.nx_catalog.proofs.laws.length_by_names.Goals as goal

pub returns : goal.returns
returns c = same_length
