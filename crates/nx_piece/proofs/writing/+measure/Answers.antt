use Rattle.std.proofs.Common.{rules, arith, ap, ◌∙◌, ◌≤◌, ◌+◌, suc}
use Rattle.std.proofs.lemmas.List.{drop_all}
use Rattle.nx_piece.specs.Gapped.{GappedTree, item_count}
use Rattle.nx_piece.specs.Items.{gapped_of}
use Rattle.nx_piece.proofs.WalkLemmas.{next_tree, next_run, next_falls, next_small, first_small, tree_most, fits_tree, fits_gap, measured_start, measured_tree, measured_gap, measured_end}
use Rattle.nx_piece.proofs.writing.+measure.Goals as goal
use Rattle.nx_piece.proofs.writing.+measure.Goals.{in-Tree, in-Run}

pub loop-item-init : goal.loop-item-init
loop-item-init t c =
    measured_start c.size.result _ c.args.tree.now c.size.ensures (c.as_slice-item-items.ensures ∙ ap (λ (x : GappedTree). x.below) c.tree.view_is) c.requires

pub measure-more-requires : goal.measure-more-requires
measure-more-requires t c =
    let d = next_tree c.as_slice-item-items.result.now c.loop-item.item-index c.item-item.result c.in-Tree.child c.loop-item-test.true c.item-item.is c.in-Tree.is in
    let falls : suc (item_count c.in-Tree.child.below) ≤ item_count c.args.tree.now.below =
    next_falls c.args.tree.now.below c.as_slice-item-items.result.now c.loop-item.item-index c.in-Tree.child (c.as_slice-item-items.ensures ∙ ap (λ (x : GappedTree). x.below) c.tree.view_is) d in
    (search rules, first_small c.in-Tree.child _ (next_small _ _ (ap gapped_of d) c.loop-item.invariant.small))

pub overflow_add-extent : goal.overflow_add-extent
overflow_add-extent t c =
    let d = next_tree c.as_slice-item-items.result.now c.loop-item.item-index c.item-item.result c.in-Tree.child c.loop-item-test.true c.item-item.is c.in-Tree.is in
    let f = fits_tree c.loop-item.invariant (ap gapped_of d) c.measure-more.ensures.items c.measure-more.ensures.slots (tree_most c.args.tree.now c.requires) in
    let most : c.loop-item.extent.items + c.measure-more.result.items ≤ 1000 = f.0 in
    omega arith

pub overflow_add-extent-in-Tree : goal.overflow_add-extent-in-Tree
overflow_add-extent-in-Tree t c =
    let d = next_tree c.as_slice-item-items.result.now c.loop-item.item-index c.item-item.result c.in-Tree.child c.loop-item-test.true c.item-item.is c.in-Tree.is in
    let f = fits_tree c.loop-item.invariant (ap gapped_of d) c.measure-more.ensures.items c.measure-more.ensures.slots (tree_most c.args.tree.now c.requires) in
    let most : c.loop-item.extent.slots + c.measure-more.result.slots ≤ 2000 = f.1 in
    omega arith

pub overflow_add-extent-in-Run : goal.overflow_add-extent-in-Run
overflow_add-extent-in-Run t c =
    let d = next_run c.as_slice-item-items.result.now c.loop-item.item-index c.item-item.result c.in-Run.count c.loop-item-test.true c.item-item.is c.in-Run.is in
    let f = fits_gap c.loop-item.invariant d (tree_most c.args.tree.now c.requires) in
    let most : c.loop-item.extent.items + 1 ≤ 1000 = f.0 in
    omega arith

pub overflow_add-extent-in-Run-2 : goal.overflow_add-extent-in-Run-2
overflow_add-extent-in-Run-2 t c =
    let d = next_run c.as_slice-item-items.result.now c.loop-item.item-index c.item-item.result c.in-Run.count c.loop-item-test.true c.item-item.is c.in-Run.is in
    let f = fits_gap c.loop-item.invariant d (tree_most c.args.tree.now c.requires) in
    let most : c.loop-item.extent.slots + 1 ≤ 2000 = f.1 in
    omega arith

pub loop-item-preserved : goal.loop-item-preserved
loop-item-preserved t c =
    elim c.match-item.branch [
      | in-Tree w ↦
          let d = next_tree c.as_slice-item-items.result.now c.loop-item.item-index c.item-item.result w.in-Tree.child c.loop-item-test.true c.item-item.is w.in-Tree.is in
          rw w.extent-is (measured_tree c.loop-item.invariant (ap gapped_of d) w.measure-more.ensures.items w.measure-more.ensures.slots)
      | in-Run w ↦
          let d = next_run c.as_slice-item-items.result.now c.loop-item.item-index c.item-item.result w.in-Run.count c.loop-item-test.true c.item-item.is w.in-Run.is in
          rw w.extent-is (measured_gap c.loop-item.invariant d)
    ]

pub returns : goal.returns
returns t c =
    let e = measured_end _ _ _ _ _ c.loop-item.invariant (ap gapped_of (drop_all _ _ c.loop-item-test.false)) in
    record { items = e.0; slots = e.1 }
