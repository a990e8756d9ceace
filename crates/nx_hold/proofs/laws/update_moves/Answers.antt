use Rattle.nx_hold.proofs.MoveLemmas.{update_moves}
use Rattle.nx_hold.proofs.laws.update_moves.Goals as goal

pub returns : goal.returns
returns c = update_moves
