use Rattle.std.proofs.Common.{rules, arith, ◌≡◌, ◌+◌, ◌*◌, ◌≤◌, ap, ◌∙◌, length, vec_len}
use Rattle.std.proofs.lemmas.List.{drop_all}
use Rattle.nx_tree.specs.Forest.{OrderedTree}
use Rattle.nx_tree.specs.Document.{depth}
use Rattle.nx_tree.proofs.TestLemmas.{next_left, depth_item}
use Rattle.nx_weights.proofs.LimitLemmas.{item_within}
use Rattle.nx_weights.proofs.SumLemmas.{next_most, put_sum}
use Rattle.nx_weights.proofs.sums.+push_weights.Goals as goal

pub push_weights-requires : goal.push_weights-requires
push_weights-requires t c =
    let forest = c.as_slice-child-items.ensures.forest ∙ ap (λ (x : OrderedTree). x.below) c.tree.view_is in
    let d : 1 + depth c.child-item.result.below ≤ depth c.args.tree.now.below =
    depth_item c.args.tree.now.below c.as_slice-child-items.result.now c.loop-child.child-index c.child-item.result forest c.loop-child-test.true c.child-item.is in
    (search rules, item_within c.args.tree.now c.as_slice-child-items.result.now c.loop-child.child-index c.child-item.result forest c.loop-child-test.true c.child-item.is c.requires)

pub overflow_add-sum : goal.overflow_add-sum
overflow_add-sum t c =
    let most : c.loop-child.sum + c.in_ok-sum.field-0 ≤ 131073 * 524288 =
    next_most c.loop-child.sum c.loop-child.child-index c.in_ok-sum.field-0 c.loop-child.weights.items c.args.weights.now.items c.as_slice-child-items.result.now c.args.tree.now c.child-item.result
    c.loop-child.invariant (next_left _ _ _ c.loop-child-test.true c.child-item.is) c.in_ok-sum.ensures.sum c.requires in
    omega arith

pub returns-clause-weights : goal.returns-clause-weights
returns-clause-weights t c =
    let len : vec_len c.args.weights.now ≡ length c.args.weights.now.items = omega (arith, c.args.weights.now.ok.0) in
    put_sum c.loop-child.sum c.loop-child.child-index c.len-place.result c.loop-child.weights.items c.args.weights.now.items c.as_slice-child-items.result.now c.args.tree.now
    c.loop-child.invariant (drop_all _ _ c.loop-child-test.false) (c.len-place.ensures ∙ len)
