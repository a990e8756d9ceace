use Rattle.std.proofs.Common.{◌≡◌, List, [], ◌∷◌, ◌++◌, ap, ◌∙◌, length, subst, vec_len, arith}
use Rattle.std.proofs.lemmas.List.{drop_all}
use Rattle.nx_tree.specs.Forest.{OrderedTree, forest_of}
use Rattle.nx_tree.proofs.TestLemmas.{next_left}
use Rattle.nx_weights.proofs.LimitLemmas.{item_within}
use Rattle.nx_parts.specs.declared.bounds.Bound.{Bound}
use Rattle.nx_partition.proofs.GrowLemmas.{IsGrown, grown_start, grown_more}
use Rattle.nx_par.proofs.AddLemmas.{place_there, minima_behind, settled}
use Rattle.std.proofs.lemmas.Result.{err_from_is_err_and}
use Rattle.nx_partition.specs.Bounding.{IsBoundRefused}
use Rattle.nx_partition.proofs.LightLemmas.{child_refused, refusal_passed}
use Rattle.nx_par.proofs.wide.bound_document.Goals as goal

abbrev none : Bound
none = record { least = 0; lean = 0; nearly = 0 }

pub loop-child-init : goal.loop-child-init
loop-child-init g c =
    let forest = c.as_slice-child-items.ensures.forest ∙ ap (λ (x : OrderedTree). x.below) c.tree.view_is in
    grown_start c.args.k c.args.tree.now.below _ _ forest c.in_ok-push.ensures.items

pub share_below-share-requires : goal.share_below-share-requires
share_below-share-requires g c =
    let ts = c.as_slice-child-items.result.now in
    let forest = c.as_slice-child-items.ensures.forest ∙ ap (λ (x : OrderedTree). x.below) c.tree.view_is in
    item_within c.args.tree.now ts c.loop-child.child-index c.child-item.result forest c.loop-child-test.true c.child-item.is c.requires.limits

pub bound_one-requires-clause-limits : goal.bound_one-requires-clause-limits
bound_one-requires-clause-limits g c κs within =
    let ts = c.as_slice-child-items.result.now in
    let forest = c.as_slice-child-items.ensures.forest ∙ ap (λ (x : OrderedTree). x.below) c.tree.view_is in
    item_within c.args.tree.now ts c.loop-child.child-index c.child-item.result forest c.loop-child-test.true c.child-item.is c.requires.limits

pub loop-child-preserved : goal.loop-child-preserved
loop-child-preserved g c =
    let next = next_left _ _ _ c.loop-child-test.true c.child-item.is in
    grown_more c.child-item.result
    (subst (λ (ts : List OrderedTree). IsGrown c.args.k c.args.tree.now.below (forest_of ts) (c.args.list.items ++ none ∷ []) c.loop-child.list.items) next c.loop-child.invariant)
    c.in_ok-list.ensures.ok

pub settle-requires-clause-place : goal.settle-requires-clause-place
settle-requires-clause-place g c =
    let end = subst (λ (ts : List OrderedTree). IsGrown c.args.k c.args.tree.now.below (forest_of ts) (c.args.list.items ++ none ∷ []) c.loop-child.list.items) (drop_all _ _ c.loop-child-test.false) c.loop-child.invariant in
    let len : vec_len c.args.list ≡ length c.args.list.items = omega (arith, c.args.list.ok.0) in
    place_there c.args.list.items none c.len-place.result end (c.len-place.ensures ∙ len)

pub settle-requires-clause-minima : goal.settle-requires-clause-minima
settle-requires-clause-minima g c =
    let end = subst (λ (ts : List OrderedTree). IsGrown c.args.k c.args.tree.now.below (forest_of ts) (c.args.list.items ++ none ∷ []) c.loop-child.list.items) (drop_all _ _ c.loop-child-test.false) c.loop-child.invariant in
    let len : vec_len c.args.list ≡ length c.args.list.items = omega (arith, c.args.list.ok.0) in
    minima_behind c.args.list.items none c.len-place.result end (c.len-place.ensures ∙ len)

pub returns-clause-ok : goal.returns-clause-ok
returns-clause-ok g c =
    let end = subst (λ (ts : List OrderedTree). IsGrown c.args.k c.args.tree.now.below (forest_of ts) (c.args.list.items ++ none ∷ []) c.loop-child.list.items) (drop_all _ _ c.loop-child-test.false) c.loop-child.invariant in
    let len : vec_len c.args.list ≡ length c.args.list.items = omega (arith, c.args.list.ok.0) in
    settled c.args.list.items none c.len-place.result end (c.len-place.ensures ∙ len) c.in_ok-settle.ensures

pub returns-in_err-list-clause-refused : goal.returns-in_err-list-clause-refused
returns-in_err-list-clause-refused g c =
    let forest = c.as_slice-child-items.ensures.forest ∙ ap (λ (x : OrderedTree). x.below) c.tree.view_is in
    let passed = err_from_is_err_and c.from_residual-in_err-list.result c.from_residual-in_err-list.ensures.1 in
    refusal_passed (IsBoundRefused c.args.k c.args.tree.now) c.from_residual-in_err-list.result c.in_err-list.field-0.0 passed
    (child_refused c.args.k c.args.tree.now c.as_slice-child-items.result.now c.loop-child.child-index c.child-item.result c.in_err-list.field-0.0 forest
    c.loop-child-test.true c.child-item.is c.in_err-list.ensures.refused)
