use Rattle.std.proofs.Common.{◌≡◌, List, ℕ, Some, None, refl, sym, ap, ◌∙◌}
use Rattle.std.specs.Prelude.{Result, IfErr}
use Rattle.std.specs.Option.{is_some}
use Rattle.std.specs.FinMap.{get}
use Rattle.std.proofs.lemmas.Result.{err_from_is_err_and}
use Rattle.nx_script.specs.declared.command.Command.TheVariants as command
use Rattle.nx_script.specs.declared.reply.Reply.{Reply}
use Rattle.nx_script.specs.declared.reply.ReplyError.{ReplyError}
use Rattle.nx_store.specs.Changing.{NotPrepared}
use Rattle.nx_store.specs.declared.error.EngineError.{EngineError}
use Rattle.nx_store.specs.declared.error.EngineError.TheVariants.{Memory}
use Rattle.nx_store.proofs.ShowLemmas.{handed}
use Rattle.nx_store.proofs.StepLemmas.{is_nothing}
use Rattle.nx_store.proofs.PrepareLemmas.{store_left, makes_step, rename_refused, rename_untold}
use Rattle.nx_store.proofs.RenameLemmas.{old_absent, new_taken}
use Rattle.nx_store.proofs.store.Store.rename_next.Goals as goal

pub returns-in_default-clause-ok : goal.returns-in_default-clause-ok
returns-in_default-clause-ok g c =
    old_absent g.D.Disk c.args.self.now c.args.disk.now c.requires.runs c.args.old.now c.args.new.now (ap (λ (n : List ℕ). get c.args.self.now.catalog.documents n) (sym c.as_slice.ensures) ∙ sym c.in_default.ensures)

pub returns-then-is_some-clause-ok : goal.returns-then-is_some-clause-ok
returns-then-is_some-clause-ok g c =
    let there = ap (λ (n : List ℕ). get c.args.self.now.catalog.documents n) (sym c.as_slice.ensures) ∙ sym c.in-Some.ensures in
    let taken = ap (λ (n : List ℕ). is_some (get c.args.self.now.catalog.documents n)) (sym c.as_slice-2.ensures) ∙ ap (λ o. is_some o) (sym c.find-2.ensures) ∙ sym c.is_some.ensures ∙ c.if-is_some.true in
    new_taken g.D.Disk c.args.self.now c.args.disk.now c.requires.runs c.args.old.now c.args.new.now c.in-Some.field-0 there taken

pub returns-in_err-push_reply-clause-refused : goal.returns-in_err-push_reply-clause-refused
returns-in_err-push_reply-clause-refused g c =
    handed c.from_residual.result (λ (r : Result (Result Reply ReplyError) EngineError). IfErr r (λ (e : EngineError). NotPrepared g.D.Disk e c.args.self.now c.args.self.now c.args.disk.now c.args.disk.now)) Memory
    (err_from_is_err_and c.from_residual.result c.from_residual.ensures.1) (store_left g.D.Disk c.args.self.now c.args.disk.now c.requires.runs)

pub prepare_rename-requires-clause-there : goal.prepare_rename-requires-clause-there
prepare_rename-requires-clause-there g c = ap (λ o. is_some o) (ap (λ (n : List ℕ). get c.args.self.now.catalog.documents n) (sym c.as_slice.ensures) ∙ sym c.in-Some.ensures)

pub prepare_rename-requires-clause-new : goal.prepare_rename-requires-clause-new
prepare_rename-requires-clause-new g c =
    let none = ap (λ (n : List ℕ). is_some (get c.args.self.now.catalog.documents n)) (sym c.as_slice-2.ensures) ∙ ap (λ o. is_some o) (sym c.find-2.ensures) ∙ sym c.is_some.ensures ∙ c.if-is_some.false in
    is_nothing (get c.args.self.now.catalog.documents c.args.new.now) none

pub returns-in-Ok-clause-ok : goal.returns-in-Ok-clause-ok
returns-in-Ok-clause-ok g c = record {
  runs = c.in-Ok.ensures.runs.0;
  changes = c.in-Ok.ensures.runs.1;
  taken = refl;
  told = c.in_ok-push_reply.ensures.ok;
  makes = λ saved state at. let made = c.in-Ok.ensures.ok saved state at in makes_step at (command.Rename c.args.old.now c.args.new.now) made.0 made.1 made.2;
}

pub returns-in-Err-clause-ok : goal.returns-in-Err-clause-ok
returns-in-Err-clause-ok g c =
    rename_refused g.D.Disk (command.Rename c.args.old.now c.args.new.now) c.args.text.now c.push_reply.new.block c.args.self.now c.prepare_rename.new.self c.args.disk.now c.prepare_rename.new.disk c.in-Err.error c.store_cause.result c.store_cause.ensures c.in-Err.ensures.refused

pub returns-in-Err-clause-refused : goal.returns-in-Err-clause-refused
returns-in-Err-clause-refused g c =
    rename_untold g.D.Disk c.args.self.now c.prepare_rename.new.self c.args.disk.now c.prepare_rename.new.disk (command.Rename c.args.old.now c.args.new.now) c.in-Err.error c.store_cause.result c.store_cause.ensures c.in-Err.ensures.refused
