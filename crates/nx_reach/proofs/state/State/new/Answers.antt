use Rattle.nx_reach.proofs.FitLemmas.{first_open}
use Rattle.nx_reach.proofs.state.State.new.Goals as goal

pub returns-clause-stands : goal.returns-clause-stands
returns-clause-stands c = record { here = first_open c.args.steps.now c.as_slice-all.ensures.some; around = c.new.ensures }
