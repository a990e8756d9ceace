use Rattle.nx_steps.proofs.RequestLemmas.{requests_stay_partitioned}
use Rattle.nx_steps.proofs.laws.requests_stay_partitioned.Goals as goal

pub returns : goal.returns
returns c = requests_stay_partitioned
