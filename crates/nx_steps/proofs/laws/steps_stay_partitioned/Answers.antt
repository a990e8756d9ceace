use Rattle.nx_steps.proofs.FeasibleLemmas.{step_partitioned}
use Rattle.nx_steps.proofs.laws.steps_stay_partitioned.Goals as goal

pub returns : goal.returns
returns c = step_partitioned
