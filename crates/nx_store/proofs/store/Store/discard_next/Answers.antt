use Rattle.std.proofs.Common.{◌≡◌, List, ℕ, None, refl, sym, ap, ◌∙◌}
use Rattle.std.specs.Prelude.{Result, IfErr}
use Rattle.std.specs.FinMap.{get}
use Rattle.std.proofs.lemmas.Result.{err_from_is_err_and}
use Rattle.nx_script.specs.declared.command.Command.TheVariants as command
use Rattle.nx_script.specs.declared.reply.Reply.{Reply}
use Rattle.nx_script.specs.declared.reply.ReplyError.{ReplyError}
use Rattle.nx_store.specs.Changing.{NotPrepared}
use Rattle.nx_store.specs.declared.error.EngineError.{EngineError}
use Rattle.nx_store.specs.declared.error.EngineError.TheVariants.{Memory}
use Rattle.nx_store.proofs.ShowLemmas.{handed}
use Rattle.nx_store.proofs.PrepareLemmas.{store_left, makes_step, gone_absent}
use Rattle.nx_store.proofs.store.Store.discard_next.Goals as goal

pub returns-in_default-clause-ok : goal.returns-in_default-clause-ok
returns-in_default-clause-ok g c = gone_absent g.D.Disk c.args.self.now c.args.disk.now c.requires.runs c.args.name.now (ap (λ (n : List ℕ). get c.args.self.now.catalog.documents n) (sym c.as_slice.ensures) ∙ sym c.in_default.ensures)

pub returns-in_err-push_reply-clause-refused : goal.returns-in_err-push_reply-clause-refused
returns-in_err-push_reply-clause-refused g c =
    handed c.from_residual.result (λ (r : Result (Result Reply ReplyError) EngineError). IfErr r (λ (e : EngineError). NotPrepared g.D.Disk e c.args.self.now c.args.self.now c.args.disk.now c.args.disk.now)) Memory
    (err_from_is_err_and c.from_residual.result c.from_residual.ensures.1) (store_left g.D.Disk c.args.self.now c.args.disk.now c.requires.runs)

pub returns-in-Ok-clause-ok : goal.returns-in-Ok-clause-ok
returns-in-Ok-clause-ok g c = record {
  runs = c.in-Ok.ensures.runs.0;
  changes = c.in-Ok.ensures.runs.1;
  taken = refl;
  told = c.in_ok-push_reply.ensures.ok;
  makes = λ saved state at. let made = c.in-Ok.ensures.ok saved state at in makes_step at (command.Discard c.args.name.now) made.0 made.1 made.2;
}
