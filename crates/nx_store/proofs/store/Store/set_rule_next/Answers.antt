use Rattle.std.proofs.Common.{refl}
use Rattle.std.specs.Prelude.{Result, IfErr}
use Rattle.std.proofs.lemmas.Result.{err_from_is_err_and}
use Rattle.nx_script.specs.declared.command.Command.TheVariants as command
use Rattle.nx_script.specs.declared.reply.Reply.{Reply}
use Rattle.nx_script.specs.declared.reply.ReplyError.{ReplyError}
use Rattle.nx_store.specs.Changing.{NotPrepared}
use Rattle.nx_store.specs.declared.error.EngineError.{EngineError}
use Rattle.nx_store.specs.declared.error.EngineError.TheVariants.{Memory}
use Rattle.nx_store.proofs.ShowLemmas.{handed}
use Rattle.nx_store.proofs.PrepareLemmas.{store_left, makes_step, rule_refused, rule_untold}
use Rattle.nx_store.proofs.store.Store.set_rule_next.Goals as goal

pub returns-in_err-push_reply-clause-refused : goal.returns-in_err-push_reply-clause-refused
returns-in_err-push_reply-clause-refused g c =
    handed c.from_residual.result (λ (r : Result (Result Reply ReplyError) EngineError). IfErr r (λ (e : EngineError). NotPrepared g.D.Disk e c.args.self.now c.args.self.now c.args.disk.now c.args.disk.now)) Memory
    (err_from_is_err_and c.from_residual.result c.from_residual.ensures.1) (store_left g.D.Disk c.args.self.now c.args.disk.now c.requires.runs)

pub returns-in-Ok-clause-ok : goal.returns-in-Ok-clause-ok
returns-in-Ok-clause-ok g c = record {
  runs = c.in-Ok.ensures.runs.0;
  changes = c.in-Ok.ensures.runs.1;
  taken = refl;
  told = c.in_ok-push_reply.ensures.ok;
  makes = λ saved state at. let made = c.in-Ok.ensures.ok saved state at in makes_step at (command.SetRule c.args.rule.now) made.0 made.1 (λ s there beside. made.2 s there);
}

pub returns-in-Err-clause-ok : goal.returns-in-Err-clause-ok
returns-in-Err-clause-ok g c =
    rule_refused g.D.Disk (command.SetRule c.args.rule.now) c.args.text.now c.push_reply.new.block c.args.self.now c.prepare_rule.new.self c.args.disk.now c.prepare_rule.new.disk c.in-Err.error c.rule_cause.result c.rule_cause.ensures c.in-Err.ensures.refused

pub returns-in-Err-clause-refused : goal.returns-in-Err-clause-refused
returns-in-Err-clause-refused g c =
    rule_untold g.D.Disk c.args.self.now c.prepare_rule.new.self c.args.disk.now c.prepare_rule.new.disk (command.SetRule c.args.rule.now) c.in-Err.error c.rule_cause.result c.rule_cause.ensures c.in-Err.ensures.refused
