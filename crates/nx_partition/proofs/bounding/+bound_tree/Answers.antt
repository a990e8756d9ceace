use Rattle.std.proofs.Common.{rules, arith, ◌≡◌, ◌+◌, ◌≤◌, List, [], ◌∷◌, ◌++◌, ap, ◌∙◌, length, drop, sym, subst, vec_len}
use Rattle.std.proofs.lemmas.List.{drop_all, take_rest}
use Rattle.std.proofs.lemmas.Result.{err_from_is_err_and}
use Rattle.nx_tree.specs.Forest.{OrderedTree, forest_of}
use Rattle.nx_tree.specs.Document.{depth}
use Rattle.nx_tree.proofs.TestLemmas.{next_left, depth_item}
use Rattle.nx_weights.proofs.LimitLemmas.{item_within}
use Rattle.nx_parts.specs.declared.bounds.Bound.{Bound}
use Rattle.nx_parts.specs.Minima.{AreMinimaIn}
use Rattle.nx_partition.specs.Bounding.{IsBoundRefused}
use Rattle.nx_partition.proofs.GrowLemmas.{IsGrown, grown_start, grown_more, grown_end, grown_all, behind_place}
use Rattle.nx_partition.proofs.LightLemmas.{child_refused, refusal_passed}
use Rattle.nx_partition.proofs.bounding.+bound_tree.Goals as goal

abbrev none : Bound
none = record { least = 0; lean = 0; nearly = 0 }

pub loop-child-init : goal.loop-child-init
loop-child-init t c =
    let forest = c.as_slice-child-items.ensures.forest ∙ ap (λ (x : OrderedTree). x.below) c.tree.view_is in
    grown_start c.args.k c.args.tree.now.below _ _ forest c.in_ok-push.ensures.items

pub bound_tree-requires : goal.bound_tree-requires
bound_tree-requires t c =
    let ts = c.as_slice-child-items.result.now in
    let i = c.loop-child.child-index in
    let child = c.child-item.result in
    let forest = c.as_slice-child-items.ensures.forest ∙ ap (λ (x : OrderedTree). x.below) c.tree.view_is in
    let d : 1 + depth child.below ≤ depth c.args.tree.now.below = depth_item c.args.tree.now.below ts i child forest c.loop-child-test.true c.child-item.is in
    (search rules, (c.requires.some, (c.requires.bound, item_within c.args.tree.now ts i child forest c.loop-child-test.true c.child-item.is c.requires.limits)))

pub loop-child-preserved : goal.loop-child-preserved
loop-child-preserved t c =
    let next = next_left _ _ _ c.loop-child-test.true c.child-item.is in
    grown_more c.child-item.result
    (subst (λ (ts : List OrderedTree). IsGrown c.args.k c.args.tree.now.below (forest_of ts) (c.args.list.now.items ++ none ∷ []) c.loop-child.list.items) next c.loop-child.invariant)
    c.in_ok-bound_tree.ensures.ok

pub least-requires-clause-minima : goal.least-requires-clause-minima
least-requires-clause-minima t c =
    let end = subst (λ (ts : List OrderedTree). IsGrown c.args.k c.args.tree.now.below (forest_of ts) (c.args.list.now.items ++ none ∷ []) c.loop-child.list.items) (drop_all _ _ c.loop-child-test.false) c.loop-child.invariant in
    let len : vec_len c.args.list.now ≡ length c.args.list.now.items = omega (arith, c.args.list.now.ok.0) in
    let is = c.deref.ensures.value in
    let behind = behind_place c.args.list.now.items none c.len-place.result end (c.len-place.ensures ∙ len) in
    subst (AreMinimaIn c.args.k c.args.tree.now.below) (sym (take_rest c.deref.result.now (c.len-place.result + 1) ∙ ap (drop (c.len-place.result + 1)) is ∙ behind)) (grown_end end).0

pub returns-clause-ok : goal.returns-clause-ok
returns-clause-ok t c =
    let end = subst (λ (ts : List OrderedTree). IsGrown c.args.k c.args.tree.now.below (forest_of ts) (c.args.list.now.items ++ none ∷ []) c.loop-child.list.items) (drop_all _ _ c.loop-child-test.false) c.loop-child.invariant in
    let len : vec_len c.args.list.now ≡ length c.args.list.now.items = omega (arith, c.args.list.now.ok.0) in
    grown_all c.args.list.now.items none c.len-place.result c.in_ok-bound.bound end (c.len-place.ensures ∙ len) c.in_ok-bound.ensures

pub returns-in_err-bound_tree-clause-refused : goal.returns-in_err-bound_tree-clause-refused
returns-in_err-bound_tree-clause-refused t c =
    let forest = c.as_slice-child-items.ensures.forest ∙ ap (λ (x : OrderedTree). x.below) c.tree.view_is in
    let passed = err_from_is_err_and c.from_residual-in_err-bound_tree.result c.from_residual-in_err-bound_tree.ensures.1 in
    refusal_passed (IsBoundRefused c.args.k c.args.tree.now) c.from_residual-in_err-bound_tree.result c.in_err-bound_tree.field-0.0 passed
    (child_refused c.args.k c.args.tree.now c.as_slice-child-items.result.now c.loop-child.child-index c.child-item.result c.in_err-bound_tree.field-0.0 forest
    c.loop-child-test.true c.child-item.is c.in_err-bound_tree.ensures.refused)
