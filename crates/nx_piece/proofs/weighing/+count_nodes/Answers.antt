use Rattle.std.proofs.Common.{rules, arith, ap, ◌∙◌, ◌≤◌, ◌+◌, suc, List}
use Rattle.nx_piece.specs.declared.piece.Item.{Item}
use Rattle.nx_piece.specs.PieceNode.{item_slots}
use Rattle.nx_piece.specs.Gapped.{GappedTree, item_count, gapped_size, gapped_nodes}
use Rattle.nx_piece.specs.Items.{gapped_of}
use Rattle.nx_piece.proofs.WalkLemmas.{next_tree, next_falls, nodes_most}
use Rattle.nx_piece.proofs.weighing.+count_nodes.Goals as goal

pub count_nodes-nodes-requires : goal.count_nodes-nodes-requires
count_nodes-nodes-requires t c =
    let d = next_tree c.as_slice-item-items.result.now c.loop-item.item-index c.item-item.result c.in-Tree.child c.loop-item-test.true c.item-item.is c.in-Tree.is in
    let falls : suc (item_count c.in-Tree.child.below) ≤ item_count c.args.tree.now.below =
    next_falls c.args.tree.now.below c.as_slice-item-items.result.now c.loop-item.item-index c.in-Tree.child (c.as_slice-item-items.ensures ∙ ap (λ (x : GappedTree). x.below) c.tree.view_is) d in
    let sum = ap (λ (xs : List Item). gapped_size (gapped_of xs)) d in
    let all = c.loop-item.invariant.1 in
    let most : item_slots c.in-Tree.child.node + gapped_size c.in-Tree.child.below ≤ 512 = omega arith in
    (search rules, most)

pub overflow_add-nodes : goal.overflow_add-nodes
overflow_add-nodes t c =
    let d = next_tree c.as_slice-item-items.result.now c.loop-item.item-index c.item-item.result c.in-Tree.child c.loop-item-test.true c.item-item.is c.in-Tree.is in
    let sum = ap (λ (xs : List Item). gapped_nodes (gapped_of xs)) d in
    let all = c.loop-item.invariant.0 in
    let own = c.count_nodes-nodes.ensures in
    let most = nodes_most c.args.tree.now.below in
    let small = c.requires in
    omega arith
