use Rattle.std.proofs.Common.{◌≡◌, length, refl, sym, ap, ◌∙◌, arith}
use Rattle.std.proofs.lemmas.Option.{slice_get_past, slice_get_read}
use Rattle.nx_tree.specs.Forest.{OrderedTree, forest_of, nodes}
use Rattle.nx_tree.proofs.EditLemmas.{whole, child-whole, removes, nodes-removes, lost, found}
use Rattle.nx_tree.proofs.tree.edit.delete_child.Goals as goal

pub returns-then-position-as_slice-clause-refused : goal.returns-then-position-as_slice-clause-refused
returns-then-position-as_slice-clause-refused c =
    let e = whole c.args.tree.now _ _ c.children.inside.trees.items c.tree.view_is c.children.view_is in
    let n = ap length c.as_slice.ensures.value in
    lost c.args.tree.now c.args.position (child-whole _ _ _ _ e ∙ slice_get_past c.children.inside.trees.items c.args.position (omega arith))

pub invariant_of-children : goal.invariant_of-children
invariant_of-children c =
    let n = ap length c.as_slice.ensures.value in
    let g = slice_get_read c.children.inside.trees.items _ c.args.position c.remove-child.result refl (omega arith) c.remove-child.ensures.value in
    let m = nodes-removes c.children.inside.trees.items c.remove-child.new.self.items c.args.position c.node_count-removed.result c.remove-child.result g c.remove-child.ensures.items (c.node_count-removed.ensures ∙ ap (λ (x : OrderedTree). nodes x.below) c.child.view_is) in
    let i : c.children.inside.node_count ≡ nodes (forest_of c.children.inside.trees.items) = c.children.invariant in
    omega arith

pub returns-clause-ok : goal.returns-clause-ok
returns-clause-ok c =
    removes _ _ c.children.inside.trees.items _ _ (whole c.args.tree.now _ _ c.children.inside.trees.items c.tree.view_is c.children.view_is) c.remove-child.ensures.items

pub returns-clause-removed : goal.returns-clause-removed
returns-clause-removed c =
    let n = ap length c.as_slice.ensures.value in
    let g = slice_get_read c.children.inside.trees.items _ c.args.position c.remove-child.result refl (omega arith) c.remove-child.ensures.value in
    nodes-removes c.children.inside.trees.items c.remove-child.new.self.items c.args.position c.node_count-removed.result c.remove-child.result g c.remove-child.ensures.items (c.node_count-removed.ensures ∙ ap (λ (x : OrderedTree). nodes x.below) c.child.view_is)
    ∙ ap (λ (x : OrderedTree). nodes x.below) (sym (whole c.args.tree.now _ _ c.children.inside.trees.items c.tree.view_is c.children.view_is))

pub returns-clause-refused : goal.returns-clause-refused
returns-clause-refused c =
    let n = ap length c.as_slice.ensures.value in
    let g = slice_get_read c.children.inside.trees.items _ c.args.position c.remove-child.result refl (omega arith) c.remove-child.ensures.value in
    found c.args.tree.now _ _ (child-whole _ _ _ _ (whole c.args.tree.now _ _ c.children.inside.trees.items c.tree.view_is c.children.view_is) ∙ g)
