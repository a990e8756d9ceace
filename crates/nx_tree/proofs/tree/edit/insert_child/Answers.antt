use Rattle.std.proofs.Common.{◌≡◌, length, arith}
use Rattle.nx_tree.proofs.EditLemmas.{whole}
use Rattle.nx_tree.proofs.KeptLemmas.{room, plants, nodes-plants}
use Rattle.nx_tree.proofs.tree.edit.insert_child.Goals as goal

pub insert-requires : goal.insert-requires
insert-requires c =
    let w = room c.new.inside.node c.args.position c.args.tree.now _ c.children.inside.trees.items (whole _ _ _ c.children.inside.trees.items c.tree.view_is c.children.view_is) c.if-is_misplaced.ensures in
    let n : c.children.inside.trees.len ≡ length c.children.inside.trees.items = c.children.inside.trees.ok.0 in
    omega arith

pub invariant_of-children-2 : goal.invariant_of-children-2
invariant_of-children-2 c =
    nodes-plants c.children.inside.trees.items c.insert.new.self.items c.args.position c.children.inside.node_count c.args.new
    (room c.new.inside.node c.args.position c.args.tree.now _ c.children.inside.trees.items (whole _ _ _ c.children.inside.trees.items c.tree.view_is c.children.view_is) c.if-is_misplaced.ensures)
    c.in_ok-insert.ensures.items c.requires.leaf c.children.invariant

pub returns-clause-ok : goal.returns-clause-ok
returns-clause-ok c =
    let e = whole c.args.tree.now _ _ c.children.inside.trees.items c.tree.view_is c.children.view_is in
    plants c.args.tree.now _ c.children.inside.trees.items c.insert.new.self.items c.args.position c.args.new e
    (room c.new.inside.node c.args.position c.args.tree.now _ c.children.inside.trees.items e c.if-is_misplaced.ensures) c.in_ok-insert.ensures.items
