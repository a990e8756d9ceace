use Rattle.std.proofs.Common.{rules, arith, ap, ◌∙◌, ◌≤◌, ◌++◌, suc}
use Rattle.std.proofs.lemmas.List.{drop_all}
use Rattle.nx_piece.specs.Gapped.{GappedTree, item_count}
use Rattle.nx_piece.specs.Items.{gapped_of}
use Rattle.nx_piece.specs.Encoding.{node_bytes}
use Rattle.nx_piece.proofs.WalkLemmas.{next_tree, next_run, next_falls, next_small, first_small, width_items, small_width, written_start, written_tree, written_gap, written_end}
use Rattle.nx_piece.proofs.writing.+push_tree.Goals as goal
use Rattle.nx_piece.proofs.writing.+push_tree.Goals.{in-Tree+in_ok-push_tree-in-Tree, in-Run+in_ok-push_run-in-Run}

pub overflow_cast-items : goal.overflow_cast-items
overflow_cast-items t c =
    let w = width_items c.args.tree.now.below c.as_slice-items.result.now (c.as_slice-items.ensures ∙ ap (λ (x : GappedTree). x.below) c.tree.view_is) in
    let s = small_width c.args.tree.now c.requires in
    omega arith

pub loop-item-init : goal.loop-item-init
loop-item-init t c =
    let below = c.as_slice-items.ensures ∙ ap (λ (x : GappedTree). x.below) c.tree.view_is in (
      written_start _ c.args.out.now _ c.args.tree.now
          (c.in_ok-push_node.ensures.bytes ∙ ap (λ w. c.args.out.now ++ node_bytes c.args.tree.now.node w) (width_items c.args.tree.now.below c.as_slice-items.result.now below))
          below c.requires,
      c.in_ok-push_node.ensures.page,
    )

pub push_tree-requires : goal.push_tree-requires
push_tree-requires t c =
    let d = next_tree c.as_slice-items.result.now c.loop-item.item-index c.item-item.result c.in-Tree.child c.loop-item-test.true c.item-item.is c.in-Tree.is in
    let falls : suc (item_count c.in-Tree.child.below) ≤ item_count c.args.tree.now.below =
    next_falls c.args.tree.now.below c.as_slice-items.result.now c.loop-item.item-index c.in-Tree.child (c.as_slice-items.ensures ∙ ap (λ (x : GappedTree). x.below) c.tree.view_is) d in
    (search rules, first_small c.in-Tree.child _ (next_small _ _ (ap gapped_of d) c.loop-item.invariant.0.small))

pub loop-item-preserved : goal.loop-item-preserved
loop-item-preserved t c =
    elim c.match-item.branch [
      | in-Tree+in_ok-push_tree-in-Tree w ↦
          let d = next_tree c.as_slice-items.result.now c.loop-item.item-index c.item-item.result w.in-Tree.child c.loop-item-test.true c.item-item.is w.in-Tree.is in
          (written_tree c.loop-item.invariant.0 (ap gapped_of d) (w.out-is ∙ w.in_ok-push_tree-in-Tree.ensures.bytes) w.in_ok-push_tree-in-Tree.ensures.page w.in_ok-push_tree-in-Tree.ensures.pages, c.loop-item.invariant.1)
      | in-Run+in_ok-push_run-in-Run w ↦
          let d = next_run c.as_slice-items.result.now c.loop-item.item-index c.item-item.result w.in-Run.count c.loop-item-test.true c.item-item.is w.in-Run.is in
          (written_gap c.loop-item.invariant.0 d (w.out-is ∙ w.in_ok-push_run-in-Run.ensures), c.loop-item.invariant.1)
    ]

pub returns-clause-bytes : goal.returns-clause-bytes
returns-clause-bytes t c = (written_end _ _ _ _ c.loop-item.invariant.0 (ap gapped_of (drop_all _ _ c.loop-item-test.false))).0

pub returns-clause-pages : goal.returns-clause-pages
returns-clause-pages t c = (written_end _ _ _ _ c.loop-item.invariant.0 (ap gapped_of (drop_all _ _ c.loop-item-test.false))).1
