use Rattle.nx_hold.proofs.MoveLemmas.{moves_add_up}
use Rattle.nx_hold.proofs.laws.moves_add_up.Goals as goal

pub returns : goal.returns
returns c = moves_add_up
