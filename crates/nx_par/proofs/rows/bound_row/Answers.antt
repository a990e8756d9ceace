use Rattle.std.proofs.Common.{List, subst}
use Rattle.std.proofs.lemmas.List.{drop_all}
use Rattle.nx_tree.specs.Forest.{OrderedTree, forest_of}
use Rattle.nx_tree.proofs.TestLemmas.{next_left}
use Rattle.nx_partition.proofs.GrowLemmas.{IsGrown, grown_more}
use Rattle.nx_par.proofs.AddLemmas.{grown_to_all}
use Rattle.std.proofs.lemmas.Result.{err_from_is_err_and}
use Rattle.nx_partition.specs.Bounding.{AreBoundsRefused}
use Rattle.nx_partition.proofs.LightLemmas.{item_refused, refusal_passed}
use Rattle.nx_par.proofs.rows.bound_row.Goals as goal

pub loop-place-preserved : goal.loop-place-preserved
loop-place-preserved g c =
    let next = next_left _ _ _ c.loop-place-test.true c.index-trees-place.is in
    grown_more c.index-trees-place.result
    (subst (λ (ts : List OrderedTree). IsGrown c.args.k (forest_of c.args.trees.now) (forest_of ts) c.args.list.items c.loop-place.list.items) next c.loop-place.invariant)
    c.in_ok-added.ensures.ok

pub returns-clause-ok : goal.returns-clause-ok
returns-clause-ok g c =
    grown_to_all c.args.k c.args.trees.now c.args.list.items c.loop-place.list.items
    (subst (λ (ts : List OrderedTree). IsGrown c.args.k (forest_of c.args.trees.now) (forest_of ts) c.args.list.items c.loop-place.list.items) (drop_all _ _ c.loop-place-test.false) c.loop-place.invariant)

pub returns-in_err-added-clause-refused : goal.returns-in_err-added-clause-refused
returns-in_err-added-clause-refused g c =
    let passed = err_from_is_err_and c.from_residual.result c.from_residual.ensures.1 in
    refusal_passed (AreBoundsRefused c.args.k (forest_of c.args.trees.now)) c.from_residual.result c.in_err-added.field-0.0 passed
    (item_refused c.args.k c.args.trees.now c.loop-place.place c.index-trees-place.result c.in_err-added.field-0.0 c.loop-place-test.true c.index-trees-place.is
    c.in_err-added.ensures.refused)
