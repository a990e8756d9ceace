use Rattle.nx_steps.proofs.FeasibleLemmas.{step_feasible}
use Rattle.nx_steps.proofs.laws.steps_stay_feasible.Goals as goal

pub returns : goal.returns
returns c = step_feasible
