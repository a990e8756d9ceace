use Rattle.nx_layouts.proofs.HeldLemmas.{held_stays}
use Rattle.nx_layouts.proofs.laws.held_stays.Goals as goal

pub returns : goal.returns
returns c = held_stays
