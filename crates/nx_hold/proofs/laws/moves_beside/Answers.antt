use Rattle.nx_hold.proofs.MoveLemmas.{moves_beside}
use Rattle.nx_hold.proofs.laws.moves_beside.Goals as goal

pub returns : goal.returns
returns c = moves_beside
