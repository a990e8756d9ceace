use Rattle.nx_steps.proofs.RequestLemmas.{requests_stay_feasible}
use Rattle.nx_steps.proofs.laws.requests_stay_feasible.Goals as goal

pub returns : goal.returns
returns c = requests_stay_feasible
