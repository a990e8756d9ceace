use Rattle.nx_holdings.proofs.DenseLemmas.{dense}
use Rattle.nx_holdings.proofs.laws.are_dense.Goals as goal

pub returns : goal.returns
returns c = dense
