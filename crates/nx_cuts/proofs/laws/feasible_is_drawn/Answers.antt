use Rattle.nx_cuts.proofs.DrawnLaw.{feasible_drawn}
use Rattle.nx_cuts.proofs.laws.feasible_is_drawn.Goals as goal

pub returns : goal.returns
returns c = feasible_drawn
