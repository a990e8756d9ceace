use Rattle.std.proofs.Common.{rules, ◌≤◌, suc, ap, ◌∙◌, subst}
use Rattle.nx_piece.specs.Gapped.{GappedTree, item_count}
use Rattle.nx_piece.specs.Items.{gapped_of}
use Rattle.nx_piece.specs.Weight.{HaveShortNodes}
use Rattle.nx_piece.proofs.WalkLemmas.{next_tree, next_falls}
use Rattle.nx_split_tests.proofs.made.+is_light.Goals as goal

pub is_light-requires : goal.is_light-requires
is_light-requires t c =
    let d = next_tree c.as_slice-item-items.result.now c.loop-item.item-index c.item-item.result c.in-Tree.child c.loop-item-test.true c.item-item.is c.in-Tree.is in
    let falls : suc (item_count c.in-Tree.child.below) ≤ item_count c.args.tree.now.below =
    next_falls c.args.tree.now.below c.as_slice-item-items.result.now c.loop-item.item-index c.in-Tree.child (c.as_slice-item-items.ensures ∙ ap (λ (x : GappedTree). x.below) c.tree.view_is) d in
    let short = subst HaveShortNodes (ap gapped_of d) c.loop-item.invariant.short in
    (search rules, (short.0, short.1))
