use Rattle.std.proofs.Common.{rules, ◌∙◌}
use Rattle.std.proofs.lemmas.Option.{slice_get_past}
use Rattle.std.proofs.lemmas.Result.{err_from_is_err_and}
use Rattle.nx_tree.proofs.PlaceLemmas.{got}
use Rattle.nx_tree.proofs.EditLemmas.{is_step}
use Rattle.nx_tree.proofs.PutLemmas.{last_refuses, puts, put_refuses, put_misses, sound_child, nodes_puts, refusal_passed}
use Rattle.nx_tree.proofs.tree.edit.+insert_in.Goals as goal

pub returns-then-is_empty-clause-refused : goal.returns-then-is_empty-clause-refused
returns-then-is_empty-clause-refused t c =
    c.insert_child.ensures.refused ∙ last_refuses c.args.limit c.args.new.node _ _ _ c.args.tree.now c.in-Some.ensures.cases.0 c.if-is_empty.ensures

pub returns-in_default-get_mut-clause-refused : goal.returns-in_default-get_mut-clause-refused
returns-in_default-get_mut-clause-refused t c =
    let s = is_step _ _ _ _ c.children.inside.trees.items _ _ c.in-Some.ensures.cases.0 c.tree.view_is c.children.view_is in
    put_misses _ _ _ _ _ _ s c.if-is_empty.ensures c.args.limit c.args.new.node (slice_get_past c.children.inside.trees.items _ c.in_default-get_mut.ensures.item.3)

pub insert_in-requires : goal.insert_in-requires
insert_in-requires t c =
    let s = is_step _ _ _ _ c.children.inside.trees.items _ _ c.in-Some.ensures.cases.0 c.tree.view_is c.children.view_is in
    let p = sound_child _ _ _ _ _ _ c.in-Some-get_mut.child.now s (got _ _ _ c.in-Some-get_mut.ensures.item.3) c.requires.forest c.requires.small in
    (search rules, (c.requires.leaf, (c.requires.limit, (p.0, (p.1, p.2)))))

pub returns-in_err-insert_in-clause-refused : goal.returns-in_err-insert_in-clause-refused
returns-in_err-insert_in-clause-refused t c =
    let s = is_step _ _ _ _ c.children.inside.trees.items _ _ c.in-Some.ensures.cases.0 c.tree.view_is c.children.view_is in
    refusal_passed c.from_residual.result _ (err_from_is_err_and c.from_residual.result c.from_residual.ensures.1)
    ∙ c.in_err-insert_in.ensures.refused
    ∙ put_refuses _ _ _ _ _ _ s c.if-is_empty.ensures c.args.limit c.in-Some-get_mut.child.now c.args.new.node (got _ _ _ c.in-Some-get_mut.ensures.item.3)

pub invariant_of-children-2 : goal.invariant_of-children-2
invariant_of-children-2 t c =
    nodes_puts c.children.inside.trees.items _ c.children.inside.node_count c.args.limit c.args.new.node c.in-Some.path.now c.in-Some-get_mut.child.now c.insert_in.new.tree
    (got _ _ _ c.in-Some-get_mut.ensures.item.3) c.in_ok-insert_in.ensures.ok c.in_ok-insert_in.ensures.refused c.children.invariant

pub returns-clause-ok : goal.returns-clause-ok
returns-clause-ok t c =
    let s = is_step _ _ _ _ c.children.inside.trees.items _ _ c.in-Some.ensures.cases.0 c.tree.view_is c.children.view_is in
    puts _ _ _ _ _ _ s c.if-is_empty.ensures c.in-Some-get_mut.child.now c.insert_in.new.tree c.args.new.node (got _ _ _ c.in-Some-get_mut.ensures.item.3) c.in_ok-insert_in.ensures.ok

pub returns-clause-refused : goal.returns-clause-refused
returns-clause-refused t c =
    let s = is_step _ _ _ _ c.children.inside.trees.items _ _ c.in-Some.ensures.cases.0 c.tree.view_is c.children.view_is in
    c.in_ok-insert_in.ensures.refused
    ∙ put_refuses _ _ _ _ _ _ s c.if-is_empty.ensures c.args.limit c.in-Some-get_mut.child.now c.args.new.node (got _ _ _ c.in-Some-get_mut.ensures.item.3)
