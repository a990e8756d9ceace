use Rattle.nx_layouts.proofs.NodeLemmas.{one_node}
use Rattle.nx_layouts.proofs.laws.one_node.Goals as goal

pub returns : goal.returns
returns c = one_node
