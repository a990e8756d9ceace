use Rattle.std.proofs.Common.{rules, arith, ◌≡◌, ◌++◌, ℕ, List, [], length, true, sym, ap, ◌∙◌, subst, inl}
use Rattle.std.specs.Prelude.{◌≢◌, Result, Err, Ok, codes}
use Rattle.std.proofs.lemmas.List.{nil_from_length}
use Rattle.std.proofs.lemmas.Result.{err_from_is_err_and}
use Rattle.nx_host.proofs.DiskLemmas.{none_still}
use Rattle.nx_records.proofs.StandLemmas.{if_err_then}
use Rattle.nx_script.specs.declared.command.Command.{Command}
use Rattle.nx_store.specs.Changing.{IsCarriedWithText}
use Rattle.nx_script.specs.declared.request.Request.TheVariants.{Transaction}
use Rattle.nx_store.specs.declared.error.EngineError.{EngineError}
use Rattle.nx_store.specs.declared.error.EngineError.TheVariants.{Memory}
use Rattle.nx_store.proofs.ShowLemmas.{handed, shows_written, on_ok_any}
use Rattle.nx_store.proofs.StayingLemmas.{ended_leaves, later_leaves, unasked_leaves}
use Rattle.nx_store.proofs.ReadLemmas.{unasked_holds}
use Rattle.nx_store.proofs.CommitLemmas.{given_up, later_refused, later_text}
use Rattle.nx_store.proofs.LogLemmas.{some_change}
use Rattle.nx_store.proofs.TransactLemmas.{none_long, some_long, nothing_done}
use Rattle.nx_store.proofs.store.Store.transact.Goals as goal

pub returns-then-is_empty-clause-transacts : goal.returns-then-is_empty-clause-transacts
returns-then-is_empty-clause-transacts g c state at told =
    let none : c.args.commands ≡ [] = nil_from_length c.args.commands (none_long c.is_empty.result (length c.args.commands) c.is_empty.ensures c.if-is_empty.true) in
    nothing_done g.D.Disk c.args.self.now c.args.disk.now c.args.commands none c.extend_from_slice.new.self (c.in_ok-extend_from_slice.ensures.ok ∙ ap (λ (l : List ℕ). l ++ codes ".\n") c.new-text.ensures) state at told

pub returns-then-is_empty-clause-leaves : goal.returns-then-is_empty-clause-leaves
returns-then-is_empty-clause-leaves g c = unasked_leaves g.D.Disk (Transaction c.args.commands) c.args.self.now c.args.disk.now

pub returns-in_err-extend_from_slice-clause-transacts : goal.returns-in_err-extend_from_slice-clause-transacts
returns-in_err-extend_from_slice-clause-transacts g c state at told =
    let runs = c.requires.runs in
    handed c.from_residual.result (λ (r : Result (List ℕ) EngineError). IsCarriedWithText g.D.Disk r state (Transaction c.args.commands) c.args.self.now c.args.self.now c.args.disk.now c.args.disk.now) Memory
    (err_from_is_err_and c.from_residual.result c.from_residual.ensures.1) (
      given_up g.D.Disk c.args.self.now c.args.self.now c.args.disk.now c.args.disk.now none_still (Transaction c.args.commands) Memory ((runs, runs), unasked_holds g.D.Disk c.args.self.now c.args.disk.now) state at told,
      λ is. unasked_holds g.D.Disk c.args.self.now c.args.disk.now,
    )

pub returns-in_err-extend_from_slice-clause-leaves : goal.returns-in_err-extend_from_slice-clause-leaves
returns-in_err-extend_from_slice-clause-leaves g c = unasked_leaves g.D.Disk (Transaction c.args.commands) c.args.self.now c.args.disk.now

pub returns-in_err-shorten_log-clause-transacts : goal.returns-in_err-shorten_log-clause-transacts
returns-in_err-shorten_log-clause-transacts g c state at told =
    handed c.from_residual-in_err-shorten_log.result (λ (r : Result (List ℕ) EngineError). IsCarriedWithText g.D.Disk r state (Transaction c.args.commands) c.args.self.now c.shorten_log.new.self c.args.disk.now c.shorten_log.new.disk)
    c.in_err-shorten_log.field-0.0 (err_from_is_err_and c.from_residual-in_err-shorten_log.result c.from_residual-in_err-shorten_log.ensures.1)
    (subst (λ (e : EngineError). IsCarriedWithText g.D.Disk (Err e) state (Transaction c.args.commands) c.args.self.now c.shorten_log.new.self c.args.disk.now c.shorten_log.new.disk) (sym c.in_err-shorten_log.ensures.refused.0)
    (inl (shows_written g.D.Disk c.in_err-shorten_log.ensures.goes told (λ i of. of state at)), λ is. cc))

pub returns-in_err-shorten_log-clause-leaves : goal.returns-in_err-shorten_log-clause-leaves
returns-in_err-shorten_log-clause-leaves g c =
    ended_leaves g.D.Disk (Transaction c.args.commands) c.args.self.now c.shorten_log.new.self c.args.disk.now c.shorten_log.new.disk (c.in_err-shorten_log.ensures.refused.2).1

pub returns-clause-transacts : goal.returns-clause-transacts
returns-clause-transacts g c state at told =
    let before = c.transact_shortly.ensures.areas.told told in
    let mid = c.in_ok-shorten_log.ensures.ok.2 state at before in
    later_text g.D.Disk c.args.self.now c.shorten_log.new.self c.transact_shortly.new.self c.args.disk.now c.shorten_log.new.disk c.transact_shortly.new.disk state (Transaction c.args.commands) c.in_ok-shorten_log.ensures.goes at before
    mid (some_change c.args.commands (some_long c.args.commands c.is_empty.result c.is_empty.ensures c.if-is_empty.false)) c.in_ok-shorten_log.ensures.log c.in_ok-shorten_log.ensures.holds c.transact_shortly.ensures.areas.told c.transact_shortly.result (c.transact_shortly.ensures.transacts state mid told)

pub returns-clause-refused : goal.returns-clause-refused
returns-clause-refused g c =
    if_err_then c.transact_shortly.result c.transact_shortly.ensures.refused (λ e refused.
    later_refused g.D.Disk c.args.self.now c.shorten_log.new.self c.transact_shortly.new.self c.args.disk.now c.shorten_log.new.disk c.transact_shortly.new.disk c.requires.runs
    c.in_ok-shorten_log.ensures.goes c.transact_shortly.ensures.areas c.in_ok-shorten_log.ensures.ok.2 e c.in_ok-shorten_log.ensures.ok.0 refused)

pub returns-clause-leaves : goal.returns-clause-leaves
returns-clause-leaves g c =
    later_leaves g.D.Disk (Transaction c.args.commands) c.args.self.now c.shorten_log.new.self c.transact_shortly.new.self c.args.disk.now c.shorten_log.new.disk c.transact_shortly.new.disk
    c.in_ok-shorten_log.ensures.holds c.transact_shortly.ensures.areas.told c.transact_shortly.ensures.leaves

pub returns-in_err-shorten_log-clause-unread : goal.returns-in_err-shorten_log-clause-unread
returns-in_err-shorten_log-clause-unread g c none = absurd (some_long c.args.commands c.is_empty.result c.is_empty.ensures c.if-is_empty.false none)

pub returns-clause-unread : goal.returns-clause-unread
returns-clause-unread g c none = absurd (some_long c.args.commands c.is_empty.result c.is_empty.ensures c.if-is_empty.false none)
