use Rattle.nx_hold.proofs.TidyLemmas.{contents_stay}
use Rattle.nx_hold.proofs.laws.contents_stay.Goals as goal

pub returns : goal.returns
returns c = contents_stay
