use Rattle.nx_steps.proofs.TreesLaw.{effect_sums}
use Rattle.nx_steps.proofs.laws.effects_leave_sums.Goals as goal

pub returns : goal.returns
returns c = effect_sums
