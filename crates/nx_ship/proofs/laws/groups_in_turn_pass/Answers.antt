use Rattle.nx_ship.proofs.MomentLemmas.{groups_in_turn_pass}
use Rattle.nx_ship.proofs.laws.groups_in_turn_pass.Goals as goal

pub returns : goal.returns
returns c = groups_in_turn_pass
