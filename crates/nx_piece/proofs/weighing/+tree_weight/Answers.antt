use Rattle.std.proofs.Common.{rules, arith, ap, ◌∙◌, ◌≤◌, ◌+◌, suc, List, subst}
use Rattle.nx_piece.specs.declared.piece.Item.{Item}
use Rattle.nx_piece.specs.PieceNode.{node_weight}
use Rattle.nx_piece.specs.Gapped.{GappedTree, item_count, gapped_weight}
use Rattle.nx_piece.specs.Weight.{HaveShortNodes}
use Rattle.nx_piece.specs.Items.{gapped_of}
use Rattle.nx_piece.proofs.WalkLemmas.{next_tree, next_falls}
use Rattle.nx_piece.proofs.weighing.+tree_weight.Goals as goal

pub tree_weight-sum-requires : goal.tree_weight-sum-requires
tree_weight-sum-requires t c =
    let d = next_tree c.as_slice-item-items.result.now c.loop-item.item-index c.item-item.result c.in-Tree.child c.loop-item-test.true c.item-item.is c.in-Tree.is in
    let falls : suc (item_count c.in-Tree.child.below) ≤ item_count c.args.tree.now.below =
    next_falls c.args.tree.now.below c.as_slice-item-items.result.now c.loop-item.item-index c.in-Tree.child (c.as_slice-item-items.ensures ∙ ap (λ (x : GappedTree). x.below) c.tree.view_is) d in
    let short = subst HaveShortNodes (ap gapped_of d) c.loop-item.invariant.1 in
    let sum = ap (λ (xs : List Item). gapped_weight (gapped_of xs)) d in
    let all = c.loop-item.invariant.0 in
    let most : node_weight c.in-Tree.child.node + gapped_weight c.in-Tree.child.below ≤ 4294967295 = omega arith in
    (search rules, ((short.0, short.1), most))
