use Rattle.nx_division.proofs.CoreLemmas.{tops_none}
use Rattle.nx_division.proofs.settle.+tops_light.Goals as goal

pub returns-in_default-clause-yes : goal.returns-in_default-clause-yes
returns-in_default-clause-yes t c = λ _ s is. tops_none c.args.k c.args.keep c.args.spots.now c.in_default.ensures.cases s is
