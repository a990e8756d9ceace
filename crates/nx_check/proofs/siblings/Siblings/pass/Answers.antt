use Rattle.std.proofs.Common.{sym, ap, ◌∙◌}
use Rattle.nx_tree.specs.Document.{is_attribute}
use Rattle.nx_check.specs.declared.siblings.Siblings.{Siblings}
use Rattle.nx_check.proofs.SiblingLemmas.{passed_other, passed_attribute, begun_names}
use Rattle.nx_check.proofs.siblings.Siblings.pass.Goals as goal

pub returns-then-not-is_attribute-clause-around : goal.returns-then-not-is_attribute-clause-around
returns-then-not-is_attribute-clause-around c = λ before behind head is around.
    passed_other c.args.self.now c.begin.new.self before behind head (ap is_attribute is ∙ sym c.is_attribute.ensures ∙ c.if-not-is_attribute.true) around (ap (λ (s : Siblings). s.begun) c.begin.ensures) (λ q. begun_names c.args.self.now c.begin.new.self q c.begin.ensures)

pub returns-else-not-is_attribute-clause-around : goal.returns-else-not-is_attribute-clause-around
returns-else-not-is_attribute-clause-around c = λ before behind head is around.
    passed_attribute c.args.self.now before behind head (ap is_attribute is ∙ sym c.is_attribute.ensures ∙ c.if-not-is_attribute.false) around
