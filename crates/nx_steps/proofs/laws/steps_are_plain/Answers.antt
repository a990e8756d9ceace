use Rattle.nx_steps.proofs.PlainLemmas.{step_plain}
use Rattle.nx_steps.proofs.laws.steps_are_plain.Goals as goal

pub returns : goal.returns
returns c = step_plain
