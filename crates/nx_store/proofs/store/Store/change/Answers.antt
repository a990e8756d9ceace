use Rattle.std.proofs.Common.{ℕ, List, sym, subst, inl}
use Rattle.std.specs.Prelude.{Result, Err}
use Rattle.std.proofs.lemmas.Result.{err_from_is_err_and}
use Rattle.nx_records.proofs.StandLemmas.{if_err_then}
use Rattle.nx_script.specs.declared.reply.Reply.{Reply}
use Rattle.nx_store.specs.Store.{IsApplied, RefusedHolds}
use Rattle.nx_store.specs.Changing.{reply_of}
use Rattle.nx_script.specs.declared.request.Request.TheVariants.{Single}
use Rattle.nx_store.specs.declared.error.EngineError.{EngineError}
use Rattle.nx_store.proofs.ShowLemmas.{handed, shows_written}
use Rattle.nx_store.proofs.CommitLemmas.{later_refused, later_applied, later_kept}
use Rattle.nx_store.proofs.StayingLemmas.{ended_leaves, later_leaves}
use Rattle.nx_store.proofs.store.Store.change.Goals as goal

pub returns-in_err-shorten_log-clause-applies : goal.returns-in_err-shorten_log-clause-applies
returns-in_err-shorten_log-clause-applies g c state at told =
    handed c.from_residual.result (λ (r : Result (Reply × List ℕ) EngineError). IsApplied g.D.Disk (reply_of r) state c.args.command c.shorten_log.new.self c.args.disk.now c.shorten_log.new.disk)
    c.in_err-shorten_log.field-0.0 (err_from_is_err_and c.from_residual.result c.from_residual.ensures.1)
    (subst (λ (e : EngineError). IsApplied g.D.Disk (Err e) state c.args.command c.shorten_log.new.self c.args.disk.now c.shorten_log.new.disk) (sym c.in_err-shorten_log.ensures.refused.0)
    (inl (shows_written g.D.Disk c.in_err-shorten_log.ensures.goes told (λ i of. of state at))))

pub returns-in_err-shorten_log-clause-kept : goal.returns-in_err-shorten_log-clause-kept
returns-in_err-shorten_log-clause-kept g c =
    handed c.from_residual.result (λ (r : Result (Reply × List ℕ) EngineError). RefusedHolds g.D.Disk (reply_of r) c.args.self.now c.shorten_log.new.self c.args.disk.now c.shorten_log.new.disk)
    c.in_err-shorten_log.field-0.0 (err_from_is_err_and c.from_residual.result c.from_residual.ensures.1)
    (subst (λ (e : EngineError). RefusedHolds g.D.Disk (Err e) c.args.self.now c.shorten_log.new.self c.args.disk.now c.shorten_log.new.disk) (sym c.in_err-shorten_log.ensures.refused.0) tt)

pub returns-clause-applies : goal.returns-clause-applies
returns-clause-applies g c state at told =
    let before = c.change_shortly.ensures.areas.told told in
    let mid = c.in_ok-shorten_log.ensures.ok.2 state at before in
    later_applied g.D.Disk c.args.self.now c.shorten_log.new.self c.change_shortly.new.self c.args.disk.now c.shorten_log.new.disk c.change_shortly.new.disk state c.args.command c.in_ok-shorten_log.ensures.goes at before
    mid c.requires.may c.in_ok-shorten_log.ensures.log (reply_of c.change_shortly.result) (c.change_shortly.ensures.applies state mid told)

pub returns-clause-refused : goal.returns-clause-refused
returns-clause-refused g c =
    if_err_then c.change_shortly.result c.change_shortly.ensures.refused (λ e refused.
    later_refused g.D.Disk c.args.self.now c.shorten_log.new.self c.change_shortly.new.self c.args.disk.now c.shorten_log.new.disk c.change_shortly.new.disk c.requires.runs
    c.in_ok-shorten_log.ensures.goes c.change_shortly.ensures.areas c.in_ok-shorten_log.ensures.ok.2 e c.in_ok-shorten_log.ensures.ok.0 refused)

pub returns-clause-kept : goal.returns-clause-kept
returns-clause-kept g c =
    later_kept g.D.Disk c.args.self.now c.shorten_log.new.self c.change_shortly.new.self c.args.disk.now c.shorten_log.new.disk c.change_shortly.new.disk c.in_ok-shorten_log.ensures.holds c.change_shortly.ensures.areas.told (reply_of c.change_shortly.result) c.change_shortly.ensures.kept

pub returns-in_err-shorten_log-clause-leaves : goal.returns-in_err-shorten_log-clause-leaves
returns-in_err-shorten_log-clause-leaves g c =
    ended_leaves g.D.Disk (Single c.args.command) c.args.self.now c.shorten_log.new.self c.args.disk.now c.shorten_log.new.disk (c.in_err-shorten_log.ensures.refused.2).1

pub returns-clause-leaves : goal.returns-clause-leaves
returns-clause-leaves g c =
    later_leaves g.D.Disk (Single c.args.command) c.args.self.now c.shorten_log.new.self c.change_shortly.new.self c.args.disk.now c.shorten_log.new.disk c.change_shortly.new.disk
    c.in_ok-shorten_log.ensures.holds c.change_shortly.ensures.areas.told c.change_shortly.ensures.leaves
