use Rattle.nx_catalog.proofs.LengthLemmas.{length_there, length_new}
use Rattle.nx_catalog.proofs.laws.set_lengthens.Goals as goal

pub returns : goal.returns
returns c = λ documents rules name entry. (length_there documents rules name entry, length_new documents rules name entry)
