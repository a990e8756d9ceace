use Rattle.std.proofs.Common.{arith, ap}
use Rattle.nx_piece.specs.declared.piece.Body.{Body}
use Rattle.nx_piece.specs.Gapped.{gapped_nodes}
use Rattle.nx_piece.specs.Flat.{unflattened}
use Rattle.nx_piece.proofs.SizeLemmas.{one_each}
use Rattle.nx_piece.proofs.FlatLemmas.{flat_sum, nodes_in}
use Rattle.nx_piece.proofs.WalkLemmas.{nodes_most}
use Rattle.nx_piece.proofs.viewing.BodyView.nodes.Goals as goal

pub loop-item-init : goal.loop-item-init
loop-item-init c =
    let items = c.as_slice-item-items.ensures.value in
    let roots = ap (λ (body : Body). gapped_nodes body.roots) c.self.view_is in
    let nodes = ap (flat_sum one_each) items in
    let size = c.self.invariant.1 in
    let small = c.self.invariant.2 in
    let most = nodes_most (unflattened c.self.inside.items.items) in
    (omega (arith, nodes_in c.self.inside.items.items), omega arith)
