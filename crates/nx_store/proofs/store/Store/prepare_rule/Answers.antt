use Rattle.std.specs.Prelude.{Result, IfErr}
use Rattle.std.proofs.lemmas.Result.{err_from_is_err_and}
use Rattle.nx_catalog.specs.declared.saving.RuleError.{RuleError}
use Rattle.nx_script.specs.declared.command.Command.TheVariants.{SetRule}
use Rattle.nx_store.specs.Changing.{RuleNotPrepared}
use Rattle.nx_store.specs.declared.store.Store.{Store}
use Rattle.nx_store.proofs.ShowLemmas.{handed}
use Rattle.nx_store.proofs.RuleLemmas.{rule_prepared, rule_unprepared}
use Rattle.nx_store.proofs.store.Store.prepare_rule.Goals as goal

pub returns-in_err-save_rule-clause-refused : goal.returns-in_err-save_rule-clause-refused
returns-in_err-save_rule-clause-refused g c =
    let after : Store = record { alloc = c.args.self.now.alloc; records = c.save_rule.new.records; catalog = c.save_rule.new.self } in
    handed c.from_residual.result (λ (r : Result (Unit {0}) RuleError). IfErr r (λ (e : RuleError). RuleNotPrepared g.D.Disk (SetRule c.args.rule.now) e c.args.self.now after c.args.disk.now c.save_rule.new.disk))
    c.in_err-save_rule.field-0.0 (err_from_is_err_and c.from_residual.result c.from_residual.ensures.1)
    (rule_unprepared g.D.Disk c.args.self.now after c.args.disk.now c.save_rule.new.disk c.args.rule.now c.requires.runs c.requires.labels c.in_err-save_rule.ensures.err c.in_err-save_rule.field-0.0 c.in_err-save_rule.ensures.refused)

pub returns-clause-ok : goal.returns-clause-ok
returns-clause-ok g c saved state at =
    let after : Store = record { alloc = c.args.self.now.alloc; records = c.save_rule.new.records; catalog = c.save_rule.new.self } in
    rule_prepared g.D.Disk c.args.self.now c.args.disk.now state at after c.save_rule.new.disk c.args.rule.now c.save_rule.ensures.documents c.in_ok-save_rule.ensures.rules
    (c.in_ok-save_rule.ensures.form at.catalog.labels c.requires.labels) c.in_ok-save_rule.ensures.ok
