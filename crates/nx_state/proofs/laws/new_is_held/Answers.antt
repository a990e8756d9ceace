use Rattle.nx_state.proofs.FirstLemmas.{new_is_held}
use Rattle.nx_state.proofs.laws.new_is_held.Goals as goal

pub returns : goal.returns
returns c = new_is_held
