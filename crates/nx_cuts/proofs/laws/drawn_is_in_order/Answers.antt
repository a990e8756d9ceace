use Rattle.nx_cuts.proofs.OrderLemmas.{drawn_in_order}
use Rattle.nx_cuts.proofs.laws.drawn_is_in_order.Goals as goal

pub returns : goal.returns
returns c = drawn_in_order
