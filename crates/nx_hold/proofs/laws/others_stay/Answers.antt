use Rattle.nx_hold.proofs.PieceLemmas.{others_stay}
use Rattle.nx_hold.proofs.laws.others_stay.Goals as goal

pub returns : goal.returns
returns c = others_stay
