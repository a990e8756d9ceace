use Rattle.std.proofs.Common.{ℕ, List}
use Rattle.std.specs.Prelude.{Result}
use Rattle.std.proofs.lemmas.Result.{err_from_is_err_and}
use Rattle.nx_store.specs.Changing.{IsCarriedWithText}
use Rattle.nx_script.specs.declared.request.Request.TheVariants.{Single}
use Rattle.nx_store.specs.declared.error.EngineError.{EngineError}
use Rattle.nx_store.specs.declared.error.EngineError.TheVariants.{Memory}
use Rattle.nx_store.proofs.ShowLemmas.{handed}
use Rattle.nx_store.proofs.TextLemmas.{untold_applied, told_applied, failed_applied}
use Rattle.nx_store.proofs.store.Store.text_behind.Goals as goal

pub returns-in_err-reply-clause-writes : goal.returns-in_err-reply-clause-writes
returns-in_err-reply-clause-writes g c state at told =
    handed c.from_residual.result (λ (r : Result (List ℕ) EngineError). IsCarriedWithText g.D.Disk r state (Single c.args.command) c.args.self.now c.look.new.self c.args.disk.now c.look.new.disk)
    c.in_err-reply.field-0.0 (err_from_is_err_and c.from_residual.result c.from_residual.ensures.1)
    (failed_applied g.D.Disk c.args.self.now c.look.new.self c.args.disk.now c.look.new.disk state c.args.command c.in_err-reply.field-0.0 (c.in_err-reply.ensures.applies state at told) c.in_err-reply.ensures.kept)

pub returns-in_err-text-clause-writes : goal.returns-in_err-text-clause-writes
returns-in_err-text-clause-writes g c state at told =
    handed c.from_residual-in_err-text.result (λ (r : Result (List ℕ) EngineError). IsCarriedWithText g.D.Disk r state (Single c.args.command) c.args.self.now c.look.new.self c.args.disk.now c.look.new.disk) Memory
    (err_from_is_err_and c.from_residual-in_err-text.result c.from_residual-in_err-text.ensures.1)
    (untold_applied g.D.Disk c.look.new.self c.args.disk.now c.look.new.disk state c.args.command c.in_ok-reply.reply c.requires.quiet (c.in_ok-reply.ensures.applies state at told), λ is. c.in_ok-reply.ensures.holds)

pub returns-clause-writes : goal.returns-clause-writes
returns-clause-writes g c state at told =
    told_applied g.D.Disk c.args.self.now c.look.new.self c.args.disk.now c.look.new.disk state c.args.command c.in_ok-reply.reply c.in_ok-text.text c.in_ok-text.ensures (c.in_ok-reply.ensures.applies state at told) c.in_ok-reply.ensures.kept
