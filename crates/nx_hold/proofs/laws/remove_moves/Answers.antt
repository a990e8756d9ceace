use Rattle.nx_hold.proofs.MoveLemmas.{remove_moves}
use Rattle.nx_hold.proofs.laws.remove_moves.Goals as goal

pub returns : goal.returns
returns c = remove_moves
