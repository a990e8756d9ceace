use Rattle.std.proofs.Common.{rules, arith, ◌≡◌, ◌≤◌, ◌+◌, max, drop, ap, ◌∙◌}
use Rattle.nx_tree.specs.Forest.{OrderedTree, forest_of}
use Rattle.nx_tree.specs.Document.{depth}
use Rattle.nx_tree.proofs.TestLemmas.{next_left, depth_start, depth_more, deeper}
use Rattle.nx_tree.proofs.tree.measure.+depth_below.Goals as goal

pub loop-child-init : goal.loop-child-init
loop-child-init t c =
    depth_start c.args.tree.now.below c.as_slice-child-items.result.now (c.as_slice-child-items.ensures.forest ∙ ap (λ (x : OrderedTree). x.below) c.tree.view_is)

pub depth_below-requires : goal.depth_below-requires
depth_below-requires t c =
    let h : max c.loop-child.greatest (depth (forest_of (drop c.loop-child.child-index c.as_slice-child-items.result.now))) ≡ depth c.args.tree.now.below = c.loop-child.invariant in
    let d : 1 + depth c.child-item.result.below ≤ depth c.args.tree.now.below =
    (deeper c.loop-child.greatest c.loop-child.child-index c.args.tree.now.below c.as_slice-child-items.result.now c.child-item.result h
    (next_left _ _ _ c.loop-child-test.true c.child-item.is)).0 in
    (search rules, omega arith)

pub overflow_add-depth_below : goal.overflow_add-depth_below
overflow_add-depth_below t c =
    let h : max c.loop-child.greatest (depth (forest_of (drop c.loop-child.child-index c.as_slice-child-items.result.now))) ≡ depth c.args.tree.now.below = c.loop-child.invariant in
    let d : 1 + depth c.child-item.result.below ≤ depth c.args.tree.now.below =
    (deeper c.loop-child.greatest c.loop-child.child-index c.args.tree.now.below c.as_slice-child-items.result.now c.child-item.result h
    (next_left _ _ _ c.loop-child-test.true c.child-item.is)).0 in
    omega arith

pub loop-child-preserved : goal.loop-child-preserved
loop-child-preserved t c =
    depth_more c.loop-child.greatest c.max-greatest.result c.depth_below.result c.loop-child.child-index c.args.tree.now.below c.as_slice-child-items.result.now c.child-item.result
    c.loop-child.invariant (next_left _ _ _ c.loop-child-test.true c.child-item.is) c.depth_below.ensures c.max-greatest.ensures
