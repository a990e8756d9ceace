use Rattle.std.proofs.Common.{rules, arith, ap, ◌∙◌, ◌≤◌, suc, List}
use Rattle.nx_piece.specs.declared.piece.Item.{Item}
use Rattle.nx_piece.specs.Gapped.{GappedTree, item_count, proxies_in}
use Rattle.nx_piece.specs.Items.{gapped_of}
use Rattle.nx_piece.proofs.WalkLemmas.{next_tree, next_falls}
use Rattle.nx_piece.proofs.locating.+proxies_below.Goals as goal

pub proxies_below-proxies-requires : goal.proxies_below-proxies-requires
proxies_below-proxies-requires t c =
    let d = next_tree c.as_slice-item-items.result.now c.loop-item.item-index c.item-item.result c.in-Tree.child c.loop-item-test.true c.item-item.is c.in-Tree.is in
    let falls : suc (item_count c.in-Tree.child.below) ≤ item_count c.args.tree.now.below =
    next_falls c.args.tree.now.below c.as_slice-item-items.result.now c.loop-item.item-index c.in-Tree.child (c.as_slice-item-items.ensures ∙ ap (λ (x : GappedTree). x.below) c.tree.view_is) d in
    let sum = ap (λ (xs : List Item). proxies_in (gapped_of xs)) d in
    let all = c.loop-item.invariant in
    let most : proxies_in c.in-Tree.child.below ≤ 524288 = omega arith in
    (search rules, most)
