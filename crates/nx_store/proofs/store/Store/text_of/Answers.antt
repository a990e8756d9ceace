use Rattle.std.proofs.Common.{ℕ, List, sym, ◌∙◌}
use Rattle.std.specs.Prelude.{Result}
use Rattle.std.proofs.lemmas.Result.{err_from_is_err_and}
use Rattle.nx_store.specs.Changing.{IsCarriedWithText}
use Rattle.nx_script.specs.declared.request.Request.TheVariants.{Single}
use Rattle.nx_store.specs.declared.error.EngineError.{EngineError}
use Rattle.nx_store.proofs.ShowLemmas.{handed}
use Rattle.nx_store.proofs.TextLemmas.{told_applied, failed_applied}
use Rattle.std.proofs.lemmas.Bool.{false≢true}
use Rattle.nx_store.proofs.ReadLemmas.{no_lookup, changes_unlike, other_reads}
use Rattle.nx_store.proofs.store.Store.text_of.Goals as goal

pub returns-then-may_change-clause-writes : goal.returns-then-may_change-clause-writes
returns-then-may_change-clause-writes g c state at told =
    told_applied g.D.Disk c.args.self.now c.change.new.self c.args.disk.now c.change.new.disk state c.args.command c.in_ok-text.field-0-0 c.in_ok-text.text c.in_ok-text.ensures.ok.1 (c.in_ok-text.ensures.applies state at told) c.in_ok-text.ensures.kept

pub returns-in_err-text-clause-writes : goal.returns-in_err-text-clause-writes
returns-in_err-text-clause-writes g c state at told =
    handed c.from_residual.result (λ (r : Result (List ℕ) EngineError). IsCarriedWithText g.D.Disk r state (Single c.args.command) c.args.self.now c.change.new.self c.args.disk.now c.change.new.disk)
    c.in_err-text.field-0.0 (err_from_is_err_and c.from_residual.result c.from_residual.ensures.1)
    (failed_applied g.D.Disk c.args.self.now c.change.new.self c.args.disk.now c.change.new.disk state c.args.command c.in_err-text.field-0.0 (c.in_err-text.ensures.applies state at told) c.in_err-text.ensures.kept)

pub returns-then-may_change-clause-reads : goal.returns-then-may_change-clause-reads
returns-then-may_change-clause-reads g c =
    other_reads g.D.Disk c.args.command c.args.self.now c.args.disk.now c.change.new.disk (no_lookup c.args.command (sym c.may_change.ensures.answer ∙ c.if-may_change.true))

pub returns-then-may_change-clause-unread : goal.returns-then-may_change-clause-unread
returns-then-may_change-clause-unread g c none =
    changes_unlike c.args.command (sym c.may_change.ensures.answer ∙ c.if-may_change.true) none

pub returns-then-may_change-clause-holds : goal.returns-then-may_change-clause-holds
returns-then-may_change-clause-holds g c quiet =
    absurd (false≢true (sym quiet ∙ sym c.may_change.ensures.answer ∙ c.if-may_change.true))

pub returns-in_err-text-clause-reads : goal.returns-in_err-text-clause-reads
returns-in_err-text-clause-reads g c =
    other_reads g.D.Disk c.args.command c.args.self.now c.args.disk.now c.change.new.disk (no_lookup c.args.command (sym c.may_change.ensures.answer ∙ c.if-may_change.true))

pub returns-in_err-text-clause-unread : goal.returns-in_err-text-clause-unread
returns-in_err-text-clause-unread g c none =
    changes_unlike c.args.command (sym c.may_change.ensures.answer ∙ c.if-may_change.true) none

pub returns-in_err-text-clause-holds : goal.returns-in_err-text-clause-holds
returns-in_err-text-clause-holds g c quiet =
    absurd (false≢true (sym quiet ∙ sym c.may_change.ensures.answer ∙ c.if-may_change.true))
