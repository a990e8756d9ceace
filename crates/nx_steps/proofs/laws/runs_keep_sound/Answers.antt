use Rattle.nx_steps.proofs.RunLemmas.{runs_keep_sound}
use Rattle.nx_steps.proofs.laws.runs_keep_sound.Goals as goal

pub returns : goal.returns
returns c = runs_keep_sound
