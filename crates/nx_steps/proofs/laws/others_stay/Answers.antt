use Rattle.nx_steps.proofs.RunLemmas.{others_stay}
use Rattle.nx_steps.proofs.laws.others_stay.Goals as goal

pub returns : goal.returns
returns c = others_stay
