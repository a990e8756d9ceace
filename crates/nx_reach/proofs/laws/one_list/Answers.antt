use Rattle.nx_reach.proofs.FoundLemmas.{one_list}
use Rattle.nx_reach.proofs.laws.one_list.Goals as goal

pub returns : goal.returns
returns c = one_list
