use Rattle.nx_holdings.proofs.OneLemmas.{hold_one}
use Rattle.nx_holdings.proofs.laws.hold_one.Goals as goal

pub returns : goal.returns
returns c = hold_one
