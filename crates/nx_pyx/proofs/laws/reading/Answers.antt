-- The lemma of `Outcome`.
use Rattle.nx_pyx.proofs.Outcome.{one_outcome}
use Rattle.nx_pyx.proofs.laws.reading.Goals as goal

pub returns : goal.returns
returns c = one_outcome
