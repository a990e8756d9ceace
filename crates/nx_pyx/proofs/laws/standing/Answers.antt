-- The lemmas of `Open`.
use Rattle.nx_pyx.proofs.Open.{open_are, rooted_is, nodes_are, attributes_are}
use Rattle.nx_pyx.proofs.laws.standing.Goals as goal

pub returns : goal.returns
returns c = record { opened = open_are; rooted = rooted_is; nodes = nodes_are; attributes = attributes_are }
