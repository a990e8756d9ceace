use Rattle.std.proofs.Common.{◌≡◌, ◌≤◌, ◌+◌, ap, ◌∙◌, arith}
use Rattle.nx_tree.specs.Forest.{OrderedTree, nodes, forest_of}
use Rattle.nx_reach.proofs.TreeLemmas.{length_nodes, child_nodes}
use Rattle.nx_reach.proofs.plain.+walk.Goals as goal

pub overflow_cast-position : goal.overflow_cast-position
overflow_cast-position t c = omega (arith, length_nodes c.args.trees.now)

pub walk-requires : goal.walk-requires
walk-requires t c =
    let d : 1 + nodes c.index-trees-position.result.below ≤ nodes (forest_of c.args.trees.now) =
    child_nodes c.args.trees.now c.loop-position.position c.index-trees-position.result c.loop-position-test.true c.index-trees-position.is in
    let f : nodes (forest_of c.as_slice-below.result.now) ≡ nodes c.index-trees-position.result.below =
    ap nodes (c.as_slice-below.ensures.forest ∙ ap (λ (x : OrderedTree). x.below) c.tree.view_is) in
    (omega arith, omega arith)
