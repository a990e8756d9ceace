use Rattle.nx_layouts.proofs.NodeLemmas.{items_show_nodes}
use Rattle.nx_layouts.proofs.laws.items_show_nodes.Goals as goal

pub returns : goal.returns
returns c = items_show_nodes
