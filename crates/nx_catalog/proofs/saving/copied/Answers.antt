use Rattle.std.proofs.Common.{◌≡◌, sym, subst, ◌∙◌}
use Rattle.nx_matrix.specs.Rules.{AreRules, SetsEntry}
use Rattle.nx_catalog.proofs.SavingLemmas.{copied_more, copied_all}
use Rattle.nx_catalog.proofs.saving.copied.Goals as goal

pub loop-rule-preserved : goal.loop-rule-preserved
loop-rule-preserved c =
    let all : c.as_slice-rule-items.result.now ≡ c.args.matrix.now = c.as_slice-rule-items.ensures ∙ c.in-Ok.ensures.ok in
    copied_more c.as_slice-rule-items.result.now c.loop-rule.rule-index c.rule-item.result c.loop-rule.copy c.set.new.self (subst AreRules (sym all) c.in-Ok.ensures.rules) (subst AreRules c.copy.view_is c.copy.invariant) c.loop-rule-test.true (sym c.rule-item.is) c.loop-rule.invariant
    (subst (λ p. SetsEntry c.loop-rule.copy c.set.new.self p c.rule-item.result.child c.rule-item.result.entry) c.as_slice.ensures
    (subst (λ q. SetsEntry c.loop-rule.copy c.set.new.self c.as_slice.result.now q c.rule-item.result.entry) c.as_slice-in-loop-rule.ensures c.in-Ok-set.ensures.ok))

pub returns : goal.returns
returns c =
    let all : c.as_slice-rule-items.result.now ≡ c.args.matrix.now = c.as_slice-rule-items.ensures ∙ c.in-Ok.ensures.ok in
    copied_all c.as_slice-rule-items.result.now c.loop-rule.rule-index c.loop-rule.copy (subst AreRules (sym all) c.in-Ok.ensures.rules) c.loop-rule-test.false c.loop-rule.invariant ∙ all
