use Rattle.std.proofs.Common.{sym, ap, ◌∙◌}
use Rattle.std.specs.Str.{bytes_eq}
use Rattle.nx_tree.specs.Forest.{OrderedTree}
use Rattle.nx_tree.specs.Document.{is_attribute}
use Rattle.nx_tree.proofs.TestLemmas.{next_left, among_none, among_this, among_more}
use Rattle.nx_tree.proofs.tree.edit.has_attribute.Goals as goal

pub returns-then-not-is_attribute : goal.returns-then-not-is_attribute
returns-then-not-is_attribute c =
    among_none c.args.name.now c.args.trees.now c.loop-tree.tree-index c.tree-item.result c.loop-tree.invariant
    (next_left _ _ _ c.loop-tree-test.true c.tree-item.is)
    (sym (c.if-not-is_attribute.ensures ∙ ap (λ (t : OrderedTree). is_attribute t.node.kind) c.tree.view_is))

pub returns-then-eq : goal.returns-then-eq
returns-then-eq c =
    among_this c.args.name.now c.args.trees.now c.loop-tree.tree-index c.tree-item.result c.loop-tree.invariant
    (next_left _ _ _ c.loop-tree-test.true c.tree-item.is)
    (sym (c.if-not-is_attribute.ensures ∙ ap (λ (t : OrderedTree). is_attribute t.node.kind) c.tree.view_is))
    (sym (c.if-eq.ensures ∙ ap (bytes_eq c.args.name.now) (c.as_slice.ensures ∙ ap (λ (t : OrderedTree). t.node.name) c.tree.view_is)))

pub loop-tree-preserved : goal.loop-tree-preserved
loop-tree-preserved c =
    among_more c.args.name.now c.args.trees.now c.loop-tree.tree-index c.tree-item.result c.loop-tree.invariant
    (next_left _ _ _ c.loop-tree-test.true c.tree-item.is)
    (sym (c.if-not-is_attribute.ensures ∙ ap (λ (t : OrderedTree). is_attribute t.node.kind) c.tree.view_is))
    (sym (c.if-eq.ensures ∙ ap (bytes_eq c.args.name.now) (c.as_slice.ensures ∙ ap (λ (t : OrderedTree). t.node.name) c.tree.view_is)))
