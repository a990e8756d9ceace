use Rattle.nx_hold.proofs.MoveLemmas.{moves_same}
use Rattle.nx_hold.proofs.laws.moves_same.Goals as goal

pub returns : goal.returns
returns c = moves_same
