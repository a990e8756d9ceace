use Rattle.std.proofs.Common.{arith, ap, subst, sym}
use Rattle.nx_piece.specs.PieceNode.{node_weight, item_slots}
use Rattle.nx_piece.specs.declared.piece.Body.{Body}
use Rattle.nx_piece.specs.Gapped.{gapped_weight}
use Rattle.nx_piece.specs.Flat.{unflattened}
use Rattle.nx_piece.proofs.SizeLemmas.{weight_within}
use Rattle.nx_piece.proofs.FlatLemmas.{flat_sum, AreFlatFar, weights_in, sizes_in, far_in}
use Rattle.nx_piece.proofs.viewing.BodyView.weight.Goals as goal

pub loop-item-init : goal.loop-item-init
loop-item-init c =
    let items = c.as_slice-item-items.ensures.value in
    let roots = ap (λ (body : Body). gapped_weight body.roots) c.self.view_is in
    let weights = ap (flat_sum node_weight) items in
    let sizes = ap (flat_sum item_slots) items in
    let size = c.self.invariant.1 in
    let small = c.self.invariant.2 in
    let far = c.self.invariant.3 in
    let most = weight_within (unflattened c.self.inside.items.items) far in (
      omega (arith, weights_in c.self.inside.items.items),
      omega (arith, sizes_in c.self.inside.items.items),
      subst AreFlatFar (sym items) (far_in c.self.inside.items.items far),
      omega (arith, most),
    )
