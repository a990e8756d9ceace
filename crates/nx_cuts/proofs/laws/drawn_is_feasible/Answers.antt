use Rattle.nx_cuts.proofs.PartitionLemmas.{drawn_feasible}
use Rattle.nx_cuts.proofs.laws.drawn_is_feasible.Goals as goal

pub returns : goal.returns
returns c = drawn_feasible
