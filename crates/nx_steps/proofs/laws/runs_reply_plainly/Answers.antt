use Rattle.nx_steps.proofs.RunLemmas.{runs_reply_plainly}
use Rattle.nx_steps.proofs.laws.runs_reply_plainly.Goals as goal

pub returns : goal.returns
returns c = runs_reply_plainly
