use Rattle.std.proofs.Common.{rules, arith, ap, ◌∙◌, ◌≤◌, ◌+◌, suc, List}
use Rattle.nx_piece.specs.declared.piece.Item.{Item}
use Rattle.nx_piece.specs.PieceNode.{item_slots}
use Rattle.nx_piece.specs.Gapped.{GappedTree, item_count, gapped_size}
use Rattle.nx_piece.specs.Items.{gapped_of}
use Rattle.nx_piece.proofs.WalkLemmas.{next_tree, next_falls}
use Rattle.nx_piece.proofs.weighing.+tree_size.Goals as goal

pub tree_size-sum-requires : goal.tree_size-sum-requires
tree_size-sum-requires t c =
    let d = next_tree c.as_slice-item-items.result.now c.loop-item.item-index c.item-item.result c.in-Tree.child c.loop-item-test.true c.item-item.is c.in-Tree.is in
    let falls : suc (item_count c.in-Tree.child.below) ≤ item_count c.args.tree.now.below =
    next_falls c.args.tree.now.below c.as_slice-item-items.result.now c.loop-item.item-index c.in-Tree.child (c.as_slice-item-items.ensures ∙ ap (λ (x : GappedTree). x.below) c.tree.view_is) d in
    let sum = ap (λ (xs : List Item). gapped_size (gapped_of xs)) d in
    let all = c.loop-item.invariant in
    let most : item_slots c.in-Tree.child.node + gapped_size c.in-Tree.child.below ≤ 4294967295 = omega arith in
    (search rules, most)
