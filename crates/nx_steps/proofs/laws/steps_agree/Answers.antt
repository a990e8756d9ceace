use Rattle.nx_steps.proofs.AgreeLemmas.{steps_agree}
use Rattle.nx_steps.proofs.laws.steps_agree.Goals as goal

pub returns : goal.returns
returns c = steps_agree
