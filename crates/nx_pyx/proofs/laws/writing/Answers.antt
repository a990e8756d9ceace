-- The lemma of `Writing`.
use Rattle.nx_pyx.proofs.Writing.{writing}
use Rattle.nx_pyx.proofs.laws.writing.Goals as goal

pub returns : goal.returns
returns c = writing
