use Rattle.nx_minima.proofs.MinimaLemmas.{one_minima}
use Rattle.nx_minima.proofs.BoundLemmas.{within_bounds}
use Rattle.nx_minima.proofs.laws.one_triple.Goals as goal

pub returns-clause-one : goal.returns-clause-one
returns-clause-one c = one_minima

pub returns-clause-within : goal.returns-clause-within
returns-clause-within c = within_bounds
