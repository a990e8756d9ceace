use Rattle.nx_hold.proofs.MoveLemmas.{pieces_stay_around}
use Rattle.nx_hold.proofs.laws.pieces_stay_around.Goals as goal

pub returns : goal.returns
returns c = pieces_stay_around
