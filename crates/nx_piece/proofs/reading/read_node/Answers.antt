use Rattle.nx_piece.proofs.ContentLemmas.{no_node, no_place}
use Rattle.nx_piece.proofs.reading.read_node.Goals as goal

pub returns-in_default-read_content : goal.returns-in_default-read_content
returns-in_default-read_content c =
    no_node c.in-Some.kind c.in-Some.items
    c.in-Some.ensures.0 c.in-Some.ensures.2 c.in-Some.ensures.3 c.requires c.in_default-read_content.ensures

pub returns-in_default-node_with : goal.returns-in_default-node_with
returns-in_default-node_with c =
    let cut = c.in-Some-read_content.ensures in
    no_place c.in-Some.kind c.in-Some.items c.in-Some-read_content.name.now c.in-Some-read_content.rest.now
    c.in-Some.ensures.0 c.in-Some.ensures.2 c.in-Some.ensures.3 c.requires cut.0 cut.1 cut.2 c.in_default-node_with.ensures
