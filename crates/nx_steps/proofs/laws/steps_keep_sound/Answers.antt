use Rattle.nx_steps.proofs.SoundLemmas.{step_sound}
use Rattle.nx_steps.proofs.laws.steps_keep_sound.Goals as goal

pub returns : goal.returns
returns c = step_sound
