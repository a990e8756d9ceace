use Rattle.nx_minima.proofs.MinimaLemmas.{choices_reached}
use Rattle.nx_minima.proofs.laws.choices_are_reached.Goals as goal

pub returns : goal.returns
returns c = choices_reached
