use Rattle.nx_catalog.proofs.LengthLemmas.{length_renamed}
use Rattle.nx_catalog.proofs.laws.rename_lengthens.Goals as goal

pub returns : goal.returns
returns c = length_renamed
