use Rattle.nx_steps.proofs.RequestLemmas.{requests_keep_sound}
use Rattle.nx_steps.proofs.laws.requests_keep_sound.Goals as goal

pub returns : goal.returns
returns c = requests_keep_sound
