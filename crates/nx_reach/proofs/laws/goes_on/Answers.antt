use Rattle.nx_reach.proofs.SeenLemmas.{goes_nothing, goes_on}
use Rattle.nx_reach.proofs.laws.goes_on.Goals as goal

pub returns-clause-nothing : goal.returns-clause-nothing
returns-clause-nothing c = goes_nothing

pub returns-clause-more : goal.returns-clause-more
returns-clause-more c = goes_on
