use Rattle.nx_hold.proofs.PieceLemmas.{pieces_stay}
use Rattle.nx_hold.proofs.laws.pieces_stay.Goals as goal

pub returns : goal.returns
returns c = pieces_stay
