use Rattle.std.proofs.Common.{◌≡◌, ℕ, length, refl, arith}
use Rattle.std.specs.Prelude.{Result, IfErr}
use Rattle.std.proofs.lemmas.Result.{err_from_is_err_and}
use Rattle.nx_records.specs.Records.{settings_of}
use Rattle.nx_script.specs.declared.reply.Reply.{Reply}
use Rattle.nx_script.specs.declared.reply.ReplyError.{ReplyError}
use Rattle.nx_store.specs.Changing.{NotPrepared}
use Rattle.nx_store.specs.declared.error.EngineError.{EngineError}
use Rattle.nx_store.specs.declared.error.EngineError.TheVariants.{Memory}
use Rattle.nx_store.proofs.ShowLemmas.{handed}
use Rattle.nx_store.proofs.StepLemmas.{few_parts}
use Rattle.nx_store.proofs.PrepareLemmas.{store_left}
use Rattle.nx_store.proofs.LoadNextLemmas.{kept_makes, unkept_ok, unkept_err}
use Rattle.nx_store.proofs.store.Store.load_parts_next.Goals as goal

pub overflow_cast-loaded : goal.overflow_cast-loaded
overflow_cast-loaded g c =
    let few = few_parts (settings_of c.args.self.now.records).k c.args.tree c.args.parts.now c.requires.chosen.lean.optimal.feasible in
    let small = c.requires.document.small in
    let long : c.len.result ≡ length c.args.parts.now = c.len.ensures in
    omega (arith, few, small, long)

pub returns-in_err-push_reply-clause-refused : goal.returns-in_err-push_reply-clause-refused
returns-in_err-push_reply-clause-refused g c =
    handed c.from_residual.result (λ (r : Result (Result Reply ReplyError) EngineError). IfErr r (λ (e : EngineError). NotPrepared g.D.Disk e c.args.self.now c.args.self.now c.args.disk.now c.args.disk.now)) Memory
    (err_from_is_err_and c.from_residual.result c.from_residual.ensures.1) (store_left g.D.Disk c.args.self.now c.args.disk.now c.requires.runs)

pub returns-in-Ok-clause-ok : goal.returns-in-Ok-clause-ok
returns-in-Ok-clause-ok g c = record {
  runs = c.in-Ok.ensures.runs.0;
  changes = c.in-Ok.ensures.runs.1;
  taken = refl;
  told = c.in_ok-push_reply.ensures.ok;
  makes = λ saved state at. kept_makes g.D.Disk c.args.self.now c.args.disk.now c.requires.runs c.args.name.now c.requires.new c.args.tree c.args.parts.now c.requires.chosen c.keep.new.self c.keep.new.disk
      c.count.result c.len.result c.count.ensures c.len.ensures saved state at (c.in-Ok.ensures.ok saved state at);
}

pub returns-in-Err-clause-ok : goal.returns-in-Err-clause-ok
returns-in-Err-clause-ok g c =
    unkept_ok g.D.Disk c.args.self.now c.args.disk.now c.requires.runs c.args.name.now c.requires.new c.args.tree c.args.parts.now c.requires.chosen c.keep.new.self c.keep.new.disk
    c.args.text.now c.push_reply.new.block c.in-Err.error c.store_cause.result c.store_cause.ensures c.in-Err.ensures.refused

pub returns-in-Err-clause-refused : goal.returns-in-Err-clause-refused
returns-in-Err-clause-refused g c =
    unkept_err g.D.Disk c.args.self.now c.args.disk.now c.requires.runs c.args.name.now c.requires.new c.args.tree c.args.parts.now c.requires.chosen c.keep.new.self c.keep.new.disk
    c.in-Err.error c.store_cause.result c.store_cause.ensures c.in-Err.ensures.refused
