use Rattle.nx_steps.proofs.PlainAnswerLemmas.{requests_reply_plainly}
use Rattle.nx_steps.proofs.laws.requests_reply_plainly.Goals as goal

pub returns : goal.returns
returns c = requests_reply_plainly
