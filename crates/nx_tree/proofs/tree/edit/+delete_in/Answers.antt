use Rattle.std.proofs.Common.{◌≡◌, ◌∙◌, sym, ap, arith}
use Rattle.std.proofs.lemmas.Option.{slice_get_past}
use Rattle.std.proofs.lemmas.Result.{err_from_is_err_and}
use Rattle.nx_tree.specs.Forest.{OrderedTree, forest_of, nodes}
use Rattle.nx_tree.proofs.PlaceLemmas.{got}
use Rattle.nx_tree.proofs.EditLemmas.{whole, is_step, nodes-less, cuts, cut_refuses, cut_misses, passed_on}
use Rattle.nx_tree.proofs.tree.edit.+delete_in.Goals as goal

pub returns-in_default-get_mut-clause-refused : goal.returns-in_default-get_mut-clause-refused
returns-in_default-get_mut-clause-refused t c =
    cut_misses _ _ _ _ _ _ (is_step _ _ _ _ c.children.inside.trees.items _ _ c.in-Some.ensures.cases.0 c.tree.view_is c.children.view_is)
    (slice_get_past c.children.inside.trees.items _ c.in_default-get_mut.ensures.item.3)

pub returns-in_err-removed-clause-refused : goal.returns-in_err-removed-clause-refused
returns-in_err-removed-clause-refused t c =
    let s = is_step _ _ _ _ c.children.inside.trees.items _ _ c.in-Some.ensures.cases.0 c.tree.view_is c.children.view_is in
    passed_on c.from_residual.result _ _ (err_from_is_err_and c.from_residual.result c.from_residual.ensures.1)
    (c.in_err-removed.ensures.refused ∙ cut_refuses _ _ _ _ _ _ s c.in-Some-get_mut.child.now (got _ _ _ c.in-Some-get_mut.ensures.item.3) c.if-is_empty.ensures)

pub invariant_of-children-2 : goal.invariant_of-children-2
invariant_of-children-2 t c =
    let i : c.children.inside.node_count ≡ nodes (forest_of c.children.inside.trees.items) = c.children.invariant in
    let n = nodes-less c.children.inside.trees.items _ c.in-Some-get_mut.child.now c.delete_in.new.tree c.in_ok-removed.removed (got _ _ _ c.in-Some-get_mut.ensures.item.3) c.in_ok-removed.ensures.removed in
    omega arith

pub returns-clause-ok : goal.returns-clause-ok
returns-clause-ok t c =
    let s = is_step _ _ _ _ c.children.inside.trees.items _ _ c.in-Some.ensures.cases.0 c.tree.view_is c.children.view_is in
    cuts _ _ _ _ _ _ s c.in-Some-get_mut.child.now c.delete_in.new.tree (got _ _ _ c.in-Some-get_mut.ensures.item.3) c.if-is_empty.ensures c.in_ok-removed.ensures.ok

pub returns-clause-removed : goal.returns-clause-removed
returns-clause-removed t c =
    nodes-less c.children.inside.trees.items _ c.in-Some-get_mut.child.now c.delete_in.new.tree c.in_ok-removed.removed (got _ _ _ c.in-Some-get_mut.ensures.item.3) c.in_ok-removed.ensures.removed
    ∙ ap (λ (x : OrderedTree). nodes x.below) (sym (whole c.args.tree.now _ _ c.children.inside.trees.items c.tree.view_is c.children.view_is))

pub returns-clause-refused : goal.returns-clause-refused
returns-clause-refused t c =
    let s = is_step _ _ _ _ c.children.inside.trees.items _ _ c.in-Some.ensures.cases.0 c.tree.view_is c.children.view_is in
    c.in_ok-removed.ensures.refused ∙ cut_refuses _ _ _ _ _ _ s c.in-Some-get_mut.child.now (got _ _ _ c.in-Some-get_mut.ensures.item.3) c.if-is_empty.ensures
