use Rattle.std.proofs.Common.{sym, ap, not, ◌∙◌}
use Rattle.nx_tree.proofs.TestLemmas.{unordered_attribute, unordered_other}
use Rattle.nx_tree.proofs.tree.edit.is_unordered.Goals as goal

pub returns-then-position-gt0 : goal.returns-then-position-gt0
returns-then-position-gt0 c =
    ap not c.is_attribute_at.ensures
    ∙ unordered_attribute c.args.kind c.args.position c.args.children.now (sym c.if-is_attribute.ensures) c.if-position-gt0.true c.requires.within c.requires.ordered

pub returns-else-is_attribute : goal.returns-else-is_attribute
returns-else-is_attribute c =
    c.is_attribute_at-else-is_attribute.ensures ∙ unordered_other c.args.kind c.args.position c.args.children.now (sym c.if-is_attribute.ensures) c.requires.ordered
