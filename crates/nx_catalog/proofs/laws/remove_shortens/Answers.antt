use Rattle.nx_catalog.proofs.LengthLemmas.{length_less, remove_absent}
use Rattle.nx_catalog.proofs.laws.remove_shortens.Goals as goal

pub returns : goal.returns
returns c = λ documents rules name. (length_less documents rules name, remove_absent documents name)
