use Rattle.nx_front.proofs.TopLemmas.{together, agrees}
use Rattle.nx_front.proofs.laws.outcomes.Goals as goal

pub returns : goal.returns
returns c = record { together = together; answers = agrees }
