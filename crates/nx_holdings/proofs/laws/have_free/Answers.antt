use Rattle.nx_holdings.proofs.CountLemmas.{have_free}
use Rattle.nx_holdings.proofs.laws.have_free.Goals as goal

pub returns : goal.returns
returns c = have_free
