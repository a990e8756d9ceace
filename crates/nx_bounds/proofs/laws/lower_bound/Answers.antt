-- The lemma of `Law`.
use Rattle.nx_bounds.proofs.Law.{bounds_below}
use Rattle.nx_bounds.proofs.laws.lower_bound.Goals as goal

pub returns : goal.returns
returns c = bounds_below
