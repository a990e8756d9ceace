use Rattle.nx_hold.proofs.TidyLemmas.{adds_stay}
use Rattle.nx_hold.proofs.laws.adds_stay.Goals as goal

pub returns : goal.returns
returns c = adds_stay
