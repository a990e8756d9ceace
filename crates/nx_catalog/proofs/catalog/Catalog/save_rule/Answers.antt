use Rattle.std.proofs.Common.{◌≡◌, List, sym, subst, ◌∙◌}
use Rattle.std.specs.Prelude.{All}
use Rattle.nx_matrix.specs.declared.rule.Rule.{Rule}
use Rattle.nx_matrix.specs.Rules.{AreRules, SetsEntry}
use Rattle.nx_matrix.specs.RuleLabels.{HasLabels}
use Rattle.nx_catalog.specs.Saving.{MakesRule}
use Rattle.nx_catalog.proofs.InsideLemmas.{shown_rules}
use Rattle.nx_catalog.proofs.SavingLemmas.{makes_labels, stored_ruled}
use Rattle.nx_catalog.proofs.catalog.Catalog.save_rule.Goals as goal

pub returns-in-Ok-save_rules-clause-form : goal.returns-in-Ok-save_rules-clause-form
returns-in-Ok-save_rules-clause-form g c labels has =
    let old : c.in-Ok.rules ≡ c.args.self.now.rules = c.in-Ok.ensures ∙ shown_rules (record { view = c.self.view_is; are = c.self.invariant.0 }) in
    let sets = subst (λ p. SetsEntry c.in-Ok.rules c.set.new.self p c.args.rule.now.child c.args.rule.now.entry) c.as_slice.ensures (subst (λ q. SetsEntry c.in-Ok.rules c.set.new.self c.as_slice.result.now q c.args.rule.now.entry) c.as_slice-2.ensures c.in-Ok-set.ensures.ok) in
    let makes : MakesRule c.args.self.now.rules c.args.rule.now c.set.new.self =
    record { are = subst AreRules c.rules.view_is c.rules.invariant; sets = subst (λ (rs : List Rule). SetsEntry rs c.set.new.self c.args.rule.now.parent c.args.rule.now.child c.args.rule.now.entry) old sets } in
    c.in-Ok-save_rules.ensures.form (sym c.is_ended.ensures ∙ c.if-is_ended.false)
    (subst (λ (rs : List Rule). All HasLabels rs) (sym c.in-Ok-save_rules.ensures.rules) (makes_labels c.args.self.now.rules c.set.new.self c.args.rule.now labels has makes))

pub returns-in-Err-clause-refused : goal.returns-in-Err-clause-refused
returns-in-Err-clause-refused g c =
    let old : c.in-Ok.rules ≡ c.args.self.now.rules = c.in-Ok.ensures ∙ shown_rules (record { view = c.self.view_is; are = c.self.invariant.0 }) in
    let sets = subst (λ p. SetsEntry c.in-Ok.rules c.set.new.self p c.args.rule.now.child c.args.rule.now.entry) c.as_slice.ensures (subst (λ q. SetsEntry c.in-Ok.rules c.set.new.self c.as_slice.result.now q c.args.rule.now.entry) c.as_slice-2.ensures c.in-Ok-set.ensures.ok) in
    stored_ruled g.D.Disk c.args.records.now c.save_rules.new.records c.args.disk.now c.save_rules.new.disk c.args.self.now c.args.rule.now c.set.new.self c.in-Err.error
    (record { are = subst AreRules c.rules.view_is c.rules.invariant; sets = subst (λ (rs : List Rule). SetsEntry rs c.set.new.self c.args.rule.now.parent c.args.rule.now.child c.args.rule.now.entry) old sets })
    c.in-Err.ensures.refused
