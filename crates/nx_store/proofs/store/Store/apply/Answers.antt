use Rattle.std.specs.Prelude.{Result}
use Rattle.std.proofs.lemmas.Result.{err_from_is_err_and}
use Rattle.nx_script.specs.declared.reply.Reply.{Reply}
use Rattle.nx_store.specs.Store.{IsApplied, RefusedHolds}
use Rattle.nx_script.specs.declared.request.Request.TheVariants.{Single}
use Rattle.nx_store.specs.declared.error.EngineError.{EngineError}
use Rattle.nx_store.proofs.ShowLemmas.{handed}
use Rattle.nx_store.proofs.StayingLemmas.{unasked_leaves}
use Rattle.std.proofs.Common.{sym, ◌∙◌}
use Rattle.std.proofs.lemmas.Bool.{false≢true}
use Rattle.nx_store.proofs.ReadLemmas.{no_lookup, changes_unlike, other_reads, ended_reads}
use Rattle.nx_store.proofs.store.Store.apply.Goals as goal

pub returns-in_err-reply-clause-applies : goal.returns-in_err-reply-clause-applies
returns-in_err-reply-clause-applies g c state at told =
    handed c.from_residual.result (λ (r : Result Reply EngineError). IsApplied g.D.Disk r state c.args.command c.change.new.self c.args.disk.now c.change.new.disk)
    c.in_err-reply.field-0.0 (err_from_is_err_and c.from_residual.result c.from_residual.ensures.1) (c.in_err-reply.ensures.applies state at told)

pub returns-then-is_ended-clause-leaves : goal.returns-then-is_ended-clause-leaves
returns-then-is_ended-clause-leaves g c = unasked_leaves g.D.Disk (Single c.args.command) c.args.self.now c.args.disk.now

pub returns-then-is_ended-clause-reads : goal.returns-then-is_ended-clause-reads
returns-then-is_ended-clause-reads g c =
    ended_reads g.D.Disk c.args.command c.args.self.now c.args.disk.now c.args.disk.now (sym c.is_ended.ensures ∙ c.if-is_ended.true)

pub returns-then-may_change-clause-reads : goal.returns-then-may_change-clause-reads
returns-then-may_change-clause-reads g c =
    other_reads g.D.Disk c.args.command c.args.self.now c.args.disk.now c.change.new.disk (no_lookup c.args.command (sym c.may_change.ensures.answer ∙ c.if-may_change.true))

pub returns-then-may_change-clause-unread : goal.returns-then-may_change-clause-unread
returns-then-may_change-clause-unread g c none =
    changes_unlike c.args.command (sym c.may_change.ensures.answer ∙ c.if-may_change.true) none

pub returns-then-may_change-clause-holds : goal.returns-then-may_change-clause-holds
returns-then-may_change-clause-holds g c quiet =
    absurd (false≢true (sym quiet ∙ sym c.may_change.ensures.answer ∙ c.if-may_change.true))

pub returns-in_err-reply-clause-reads : goal.returns-in_err-reply-clause-reads
returns-in_err-reply-clause-reads g c =
    other_reads g.D.Disk c.args.command c.args.self.now c.args.disk.now c.change.new.disk (no_lookup c.args.command (sym c.may_change.ensures.answer ∙ c.if-may_change.true))

pub returns-in_err-reply-clause-unread : goal.returns-in_err-reply-clause-unread
returns-in_err-reply-clause-unread g c none =
    changes_unlike c.args.command (sym c.may_change.ensures.answer ∙ c.if-may_change.true) none

pub returns-in_err-reply-clause-holds : goal.returns-in_err-reply-clause-holds
returns-in_err-reply-clause-holds g c quiet =
    absurd (false≢true (sym quiet ∙ sym c.may_change.ensures.answer ∙ c.if-may_change.true))

pub returns-in_err-reply-clause-kept : goal.returns-in_err-reply-clause-kept
returns-in_err-reply-clause-kept g c =
    handed c.from_residual.result (λ (r : Result Reply EngineError). RefusedHolds g.D.Disk r c.args.self.now c.change.new.self c.args.disk.now c.change.new.disk)
    c.in_err-reply.field-0.0 (err_from_is_err_and c.from_residual.result c.from_residual.ensures.1) c.in_err-reply.ensures.kept
