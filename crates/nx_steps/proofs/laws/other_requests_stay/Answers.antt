use Rattle.nx_steps.proofs.RequestLemmas.{other_requests_stay}
use Rattle.nx_steps.proofs.laws.other_requests_stay.Goals as goal

pub returns : goal.returns
returns c = other_requests_stay
