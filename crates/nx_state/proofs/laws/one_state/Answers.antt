use Rattle.nx_state.proofs.OneLemmas.{one_state}
use Rattle.nx_state.proofs.laws.one_state.Goals as goal

pub returns : goal.returns
returns c = one_state
