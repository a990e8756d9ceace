use Rattle.nx_piece.specs.Flat.{seen_node}
use Rattle.nx_seek.proofs.ItemLemmas.{first_node}
use Rattle.nx_seek.proofs.items.read_item.Goals as goal

pub returns-clause-first : goal.returns-clause-first
returns-clause-first c =
    let read = c.in-Some-read_node.ensures in
    first_node c.args.bytes.now c.in-Some-read_node.behind.now (seen_node c.in-Some-read_node.node) c.in-Some-read_node.items read.0 read.2 read.3 read.4 read.5 c.in_default.ensures
