use Rattle.std.proofs.Common.{refl}
use Rattle.std.specs.Prelude.{Result, IfErr}
use Rattle.std.proofs.lemmas.Result.{err_from_is_err_and}
use Rattle.nx_script.specs.declared.reply.Reply.{Reply}
use Rattle.nx_script.specs.declared.reply.ReplyError.{ReplyError}
use Rattle.nx_store.specs.Changing.{NotPrepared}
use Rattle.nx_store.specs.Editing.{edit_command}
use Rattle.nx_store.specs.declared.error.EngineError.{EngineError}
use Rattle.nx_store.specs.declared.error.EngineError.TheVariants.{Memory}
use Rattle.nx_store.proofs.ShowLemmas.{handed}
use Rattle.nx_store.proofs.PrepareLemmas.{store_left, makes_edit, edit_refused, edit_unprepared}
use Rattle.nx_store.proofs.store.Store.edit_document_next.Goals as goal

pub returns-in_err-push_reply-clause-refused : goal.returns-in_err-push_reply-clause-refused
returns-in_err-push_reply-clause-refused g c =
    handed c.from_residual.result (λ (r : Result (Result Reply ReplyError) EngineError). IfErr r (λ (e : EngineError). NotPrepared g.D.Disk e c.args.self.now c.args.self.now c.args.disk.now c.args.disk.now)) Memory
    (err_from_is_err_and c.from_residual.result c.from_residual.ensures.1) (store_left g.D.Disk c.args.self.now c.args.disk.now c.requires.runs)

pub returns-in-Ok-clause-ok : goal.returns-in-Ok-clause-ok
returns-in-Ok-clause-ok g c = record {
  runs = c.in-Ok.ensures.runs.0;
  changes = c.in-Ok.ensures.runs.1;
  taken = refl;
  told = c.in_ok-push_reply.ensures.ok;
  makes = λ saved state at. let made = c.in-Ok.ensures.ok saved state at in makes_edit at c.args.name.now c.args.path c.args.edit made.0 made.1 made.2;
}

pub returns-in-Err-clause-ok : goal.returns-in-Err-clause-ok
returns-in-Err-clause-ok g c =
    edit_refused g.D.Disk (edit_command c.args.name.now c.args.path c.args.edit) c.args.text.now c.push_reply.new.block c.args.self.now c.prepare_edit.new.self c.args.disk.now c.prepare_edit.new.disk c.args.path c.in-Err.error c.edit_cause.result c.edit_cause.ensures c.in-Err.ensures.refused

pub returns-in-Err-clause-refused : goal.returns-in-Err-clause-refused
returns-in-Err-clause-refused g c =
    edit_unprepared g.D.Disk c.args.self.now c.prepare_edit.new.self c.args.disk.now c.prepare_edit.new.disk (edit_command c.args.name.now c.args.path c.args.edit) c.args.path c.in-Err.error c.edit_cause.result c.edit_cause.ensures c.in-Err.ensures.refused
