use Rattle.nx_minima.proofs.DrawingLemmas.{choice_drawn}
use Rattle.nx_minima.proofs.laws.choice_is_drawn.Goals as goal

pub returns : goal.returns
returns c = choice_drawn
