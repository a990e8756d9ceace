use Rattle.nx_ship.proofs.RecoveryLemmas.{states_are_whole, states_stay_dense}
use Rattle.nx_ship.proofs.laws.states_are_whole.Goals as goal

pub returns-clause-whole : goal.returns-clause-whole
returns-clause-whole c = states_are_whole

pub returns-clause-dense : goal.returns-clause-dense
returns-clause-dense c = states_stay_dense
