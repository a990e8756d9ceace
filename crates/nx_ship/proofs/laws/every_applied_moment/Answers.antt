use Rattle.nx_ship.proofs.MomentLemmas.{every_applied_moment}
use Rattle.nx_ship.proofs.laws.every_applied_moment.Goals as goal

pub returns : goal.returns
returns c = every_applied_moment
