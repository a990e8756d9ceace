use Rattle.std.proofs.Common.{arith, ap, ◌≤◌, ◌+◌}
use Rattle.std.proofs.lemmas.List.{drop_all}
use Rattle.nx_piece.specs.Gapped.{grown_of}
use Rattle.nx_piece.proofs.WalkLemmas.{next_root, next_small, first_small, all_most, fits_tree, measured_tree, measured_end}
use Rattle.nx_piece.proofs.writing.measure_all.Goals as goal

pub loop-tree-init : goal.loop-tree-init
loop-tree-init c = record { item_sum = omega arith; slot_sum = omega arith; small = c.requires }

pub measure-more-requires : goal.measure-more-requires
measure-more-requires c =
    first_small c.tree-item.result _ (next_small _ _ (next_root _ _ _ c.loop-tree-test.true c.tree-item.is) c.loop-tree.invariant.small)

pub overflow_add-extent : goal.overflow_add-extent
overflow_add-extent c =
    let f = fits_tree c.loop-tree.invariant (next_root _ _ _ c.loop-tree-test.true c.tree-item.is) c.measure-more.ensures.items c.measure-more.ensures.slots (all_most _ c.requires) in
    let most : c.loop-tree.extent.items + c.measure-more.result.items ≤ 1000 = f.0 in
    omega arith

pub overflow_add-extent-in-loop-tree : goal.overflow_add-extent-in-loop-tree
overflow_add-extent-in-loop-tree c =
    let f = fits_tree c.loop-tree.invariant (next_root _ _ _ c.loop-tree-test.true c.tree-item.is) c.measure-more.ensures.items c.measure-more.ensures.slots (all_most _ c.requires) in
    let most : c.loop-tree.extent.slots + c.measure-more.result.slots ≤ 2000 = f.1 in
    omega arith

pub loop-tree-preserved : goal.loop-tree-preserved
loop-tree-preserved c =
    measured_tree c.loop-tree.invariant (next_root _ _ _ c.loop-tree-test.true c.tree-item.is) c.measure-more.ensures.items c.measure-more.ensures.slots

pub returns : goal.returns
returns c =
    let e = measured_end _ _ _ _ _ c.loop-tree.invariant (ap grown_of (drop_all _ _ c.loop-tree-test.false)) in
    record { items = e.0; slots = e.1 }
