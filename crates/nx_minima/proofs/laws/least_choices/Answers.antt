use Rattle.nx_minima.proofs.MinimaLemmas.{least_choices}
use Rattle.nx_minima.proofs.laws.least_choices.Goals as goal

pub returns : goal.returns
returns c = least_choices
