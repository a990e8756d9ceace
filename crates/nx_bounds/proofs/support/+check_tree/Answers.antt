use Rattle.std.proofs.Common.{rules, arith, ◌≡◌, ◌+◌, ◌≤◌, length, ap, ◌∙◌}
use Rattle.std.proofs.lemmas.List.{drop_all}
use Rattle.std.proofs.lemmas.Result.{err_from_is_err_and}
use Rattle.nx_tree.specs.Forest.{OrderedTree, nodes}
use Rattle.nx_tree.specs.Document.{depth}
use Rattle.nx_tree.proofs.TestLemmas.{next_left, depth_item}
use Rattle.nx_weights.proofs.LimitLemmas.{item_within}
use Rattle.nx_bounds.proofs.WalkLemmas.{some_bound, walk_start, walk_within, walk_more, walk_end, walk_fails, walk_fails_more}
use Rattle.nx_bounds.proofs.support.+check_tree.Goals as goal

pub returns-in_err-check_node-clause-err : goal.returns-in_err-check_node-clause-err
returns-in_err-check_node-clause-err t c =
    let p = err_from_is_err_and c.from_residual.result c.from_residual.ensures.1 in
    let b = some_bound c.args.bounds.now c.args.place (omega arith) in
    rw (p.1, p.2) (walk_fails c.args.k c.args.tree.now c.args.bounds.now c.args.place b.0 _ b.1 (c.in_err-check_node.ensures.err b.0 b.1))

pub loop-child-init : goal.loop-child-init
loop-child-init t c =
    let forest = c.as_slice-child-items.ensures.forest ∙ ap (λ (x : OrderedTree). x.below) c.tree.view_is in
    let b = some_bound c.args.bounds.now c.args.place (omega arith) in
    walk_start c.args.k c.args.tree.now c.args.bounds.now c.args.place c.as_slice-child-items.result.now b.0 b.1 forest (c.in_ok-check_node.ensures.ok b.0 b.1)

pub check_tree-requires : goal.check_tree-requires
check_tree-requires t c =
    let forest = c.as_slice-child-items.ensures.forest ∙ ap (λ (x : OrderedTree). x.below) c.tree.view_is in
    let d : 1 + depth c.child-item.result.below ≤ depth c.args.tree.now.below =
    depth_item c.args.tree.now.below c.as_slice-child-items.result.now c.loop-child.child-index c.child-item.result forest c.loop-child-test.true c.child-item.is in
    let w : c.loop-child.next + 1 + nodes c.child-item.result.below ≤ length c.args.bounds.now =
    walk_within c.args.k c.args.tree.now c.args.bounds.now c.args.place c.as_slice-child-items.result.now c.loop-child.child-index c.loop-child.next c.child-item.result c.loop-child.invariant
    (next_left _ _ _ c.loop-child-test.true c.child-item.is) c.requires.enough in (
      search rules,
      (
        c.requires.some,
        (
          c.requires.bound,
          (
            item_within c.args.tree.now c.as_slice-child-items.result.now c.loop-child.child-index c.child-item.result forest c.loop-child-test.true c.child-item.is c.requires.limits,
            (c.requires.few, w),
          ),
        ),
      ),
    )

pub returns-in_err-check_tree-clause-err : goal.returns-in_err-check_tree-clause-err
returns-in_err-check_tree-clause-err t c =
    let p = err_from_is_err_and c.from_residual-in_err-check_tree.result c.from_residual-in_err-check_tree.ensures.1 in
    rw (p.1, p.2) (walk_fails_more c.args.k c.args.tree.now c.args.bounds.now c.args.place c.as_slice-child-items.result.now c.loop-child.child-index c.loop-child.next c.child-item.result _
    c.loop-child.invariant (next_left _ _ _ c.loop-child-test.true c.child-item.is) c.requires.enough c.in_err-check_tree.ensures.err)

pub count-next-requires : goal.count-next-requires
count-next-requires t c =
    let forest = c.as_slice-child-items.ensures.forest ∙ ap (λ (x : OrderedTree). x.below) c.tree.view_is in
    (item_within c.args.tree.now c.as_slice-child-items.result.now c.loop-child.child-index c.child-item.result forest c.loop-child-test.true c.child-item.is c.requires.limits).few

pub overflow_add-next-in-loop-child : goal.overflow_add-next-in-loop-child
overflow_add-next-in-loop-child t c =
    let w : c.loop-child.next + 1 + nodes c.child-item.result.below ≤ length c.args.bounds.now =
    walk_within c.args.k c.args.tree.now c.args.bounds.now c.args.place c.as_slice-child-items.result.now c.loop-child.child-index c.loop-child.next c.child-item.result c.loop-child.invariant
    (next_left _ _ _ c.loop-child-test.true c.child-item.is) c.requires.enough in
    let n : c.count-next.result ≡ 1 + nodes c.child-item.result.below = c.count-next.ensures in
    omega arith

pub loop-child-preserved : goal.loop-child-preserved
loop-child-preserved t c =
    walk_more c.args.k c.args.tree.now c.args.bounds.now c.args.place c.as_slice-child-items.result.now c.loop-child.child-index c.loop-child.next c.count-next.result c.child-item.result
    c.loop-child.invariant (next_left _ _ _ c.loop-child-test.true c.child-item.is) c.requires.enough c.count-next.ensures c.in_ok-check_tree.ensures.ok

pub returns-clause-ok : goal.returns-clause-ok
returns-clause-ok t c =
    walk_end c.args.k c.args.tree.now c.args.bounds.now c.args.place c.as_slice-child-items.result.now c.loop-child.child-index c.loop-child.next c.loop-child.invariant
    (drop_all _ _ c.loop-child-test.false)
