use Rattle.std.proofs.Common.{◌+◌, ◌≤◌, ap, ◌∙◌, arith}
use Rattle.nx_tree.specs.Forest.{OrderedTree}
use Rattle.nx_tree.specs.Document.{depth}
use Rattle.nx_tree.proofs.TestLemmas.{depth_item}
use Rattle.nx_reach_tests.proofs.finders.+holds.Goals as goal

pub holds-requires : goal.holds-requires
holds-requires t c =
    let d : 1 + depth c.child-item.result.below ≤ depth c.args.tree.now.below =
    depth_item c.args.tree.now.below c.as_slice-items.result.now c.loop-child.child-index c.child-item.result
    (c.as_slice-items.ensures.forest ∙ ap (λ (x : OrderedTree). x.below) c.tree.view_is) c.loop-child-test.true c.child-item.is in
    omega arith
