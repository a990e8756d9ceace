use Rattle.nx_hold.proofs.MoveLemmas.{pieces_stay_beside}
use Rattle.nx_hold.proofs.laws.pieces_stay_beside.Goals as goal

pub returns : goal.returns
returns c = pieces_stay_beside
