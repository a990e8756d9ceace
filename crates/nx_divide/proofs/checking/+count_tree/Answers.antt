use Rattle.std.proofs.Common.{rules, arith, ap, ◌∙◌, ◌≤◌, ◌+◌, suc, List}
use Rattle.nx_piece.specs.declared.piece.Item.{Item}
use Rattle.nx_piece.specs.Gapped.{GappedTree, item_count}
use Rattle.nx_piece.specs.Items.{gapped_of}
use Rattle.nx_piece.proofs.WalkLemmas.{next_tree, next_falls}
use Rattle.nx_divide.specs.Marked.{many}
use Rattle.nx_divide.proofs.checking.+count_tree.Goals as goal

pub count_tree-count-requires : goal.count_tree-count-requires
count_tree-count-requires t c =
    let d = next_tree c.as_slice-item-items.result.now c.loop-item.item-index c.item-item.result c.in-Tree.child c.loop-item-test.true c.item-item.is c.in-Tree.is in
    let falls : suc (item_count c.in-Tree.child.below) ≤ item_count c.args.tree.now.below =
    next_falls c.args.tree.now.below c.as_slice-item-items.result.now c.loop-item.item-index c.in-Tree.child (c.as_slice-item-items.ensures ∙ ap (λ (x : GappedTree). x.below) c.tree.view_is) d in
    let sum = ap (λ (xs : List Item). many (gapped_of xs)) d in
    let all = c.loop-item.invariant in
    let most : 1 + many c.in-Tree.child.below ≤ 4294967295 = omega (arith, sum, all, c.requires) in
    (search rules, most)
