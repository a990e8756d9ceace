use Rattle.nx_cuts.specs.Cut.{tree_of}
use Rattle.std.proofs.Common.{length}
use Rattle.nx_piece.specs.PieceNode.{content_length}
use Rattle.nx_nav.specs.Shows.{found_node}
use Rattle.nx_nav.proofs.NodeLemmas.{content_fits}
use Rattle.nx_nav.proofs.ShowLemmas.{outlines}
use Rattle.nx_nav.proofs.finding.outline.Goals as goal

pub returns-clause-ok : goal.returns-clause-ok
returns-clause-ok g c = (c.in_ok-found.ensures.stays.0, c.in_ok-found.ensures.stays.1, λ document h. outlines h.now (tree_of document) c.args.path.now c.in_ok-found.found (c.in_ok-found.ensures.finds document h) c.outline_of.result c.outline_of.ensures)

pub outline_of-requires : goal.outline_of-requires
outline_of-requires g c =
    content_fits (length c.args.path.now) c.in_ok-found.found.node.kind c.in_ok-found.found.node.name (content_length (found_node c.in_ok-found.found)) c.in_ok-found.ensures.possible.0
