use Rattle.nx_steps.proofs.RequestLemmas.{request_runs_keep_sound}
use Rattle.nx_steps.proofs.laws.request_runs_keep_sound.Goals as goal

pub returns : goal.returns
returns c = request_runs_keep_sound
