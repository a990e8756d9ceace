use Rattle.nx_steps.proofs.RequestAgreeLemmas.{requests_agree}
use Rattle.nx_steps.proofs.laws.requests_agree.Goals as goal

pub returns : goal.returns
returns c = requests_agree
