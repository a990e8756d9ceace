use Rattle.nx_hold.proofs.MoveLemmas.{contents_stay_around}
use Rattle.nx_hold.proofs.laws.contents_stay_around.Goals as goal

pub returns : goal.returns
returns c = contents_stay_around
