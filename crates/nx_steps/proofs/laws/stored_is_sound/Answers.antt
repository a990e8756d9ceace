use Rattle.nx_steps.proofs.StoredLemmas.{stored_sound}
use Rattle.nx_steps.proofs.laws.stored_is_sound.Goals as goal

pub returns : goal.returns
returns c = stored_sound
