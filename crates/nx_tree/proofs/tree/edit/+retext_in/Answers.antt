use Rattle.std.proofs.Common.{◌∙◌}
use Rattle.std.proofs.lemmas.Option.{slice_get_past}
use Rattle.std.proofs.lemmas.Result.{on_ok_weaker}
use Rattle.nx_tree.proofs.PlaceLemmas.{got}
use Rattle.nx_tree.proofs.EditLemmas.{is_step, keeps_count, retexts, retext_refuses, retext_misses, nodes-retexted}
use Rattle.nx_tree.proofs.tree.edit.+retext_in.Goals as goal

pub returns-in_default-get_mut-clause-refused : goal.returns-in_default-get_mut-clause-refused
returns-in_default-get_mut-clause-refused t c =
    retext_misses _ _ _ _ _ _ (is_step _ _ _ _ c.children.inside.trees.items _ _ c.in-Some.ensures.cases.0 c.tree.view_is c.children.view_is)
    (slice_get_past _ _ c.in_default-get_mut.ensures.item.3)

pub invariant_of-children-2 : goal.invariant_of-children-2
invariant_of-children-2 t c =
    keeps_count c.children.inside.trees.items _ c.in-Some-get_mut.child.now _ _ (got _ _ _ c.in-Some-get_mut.ensures.item.3)
    (nodes-retexted c.retext_in.result c.args.content c.in-Some.path.now _ _ c.retext_in.ensures.ok c.retext_in.ensures.err)
    c.children.invariant

pub returns-clause-ok : goal.returns-clause-ok
returns-clause-ok t c =
    let s = is_step _ _ _ _ c.children.inside.trees.items _ _ c.in-Some.ensures.cases.0 c.tree.view_is c.children.view_is in
    on_ok_weaker c.retext_in.result
    (retexts _ _ _ _ _ _ s c.in-Some-get_mut.child.now c.retext_in.new.tree c.args.content (got _ _ _ c.in-Some-get_mut.ensures.item.3))
    c.retext_in.ensures.ok

pub returns-clause-refused : goal.returns-clause-refused
returns-clause-refused t c =
    let s = is_step _ _ _ _ c.children.inside.trees.items _ _ c.in-Some.ensures.cases.0 c.tree.view_is c.children.view_is in
    c.retext_in.ensures.refused ∙ retext_refuses _ _ _ _ _ _ s c.in-Some-get_mut.child.now (got _ _ _ c.in-Some-get_mut.ensures.item.3)
