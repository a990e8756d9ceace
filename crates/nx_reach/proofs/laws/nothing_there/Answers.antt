use Rattle.nx_reach.proofs.FoundLemmas.{nothing_there}
use Rattle.nx_reach.proofs.laws.nothing_there.Goals as goal

pub returns : goal.returns
returns c = nothing_there
