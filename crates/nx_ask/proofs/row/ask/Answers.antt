use Rattle.std.proofs.Common.{sym, subst}
use Rattle.nx_store.specs.Store.{IsAt}
use Rattle.nx_ask.specs.declared.error.AskError.{AskError}
use Rattle.nx_ask.specs.Asked.{NotAsked}
use Rattle.nx_ask.proofs.StoreLemmas.{not_applied_asked, asked_on}
use Rattle.nx_ask.proofs.row.ask.Goals as goal

pub returns-in-Ok-clause-ok : goal.returns-in-Ok-clause-ok
returns-in-Ok-clause-ok g c told state at =
    let copied = rw c.in-Some.is at c.in_ok-command.ensures.some in
    asked_on g.D.Disk state c.in-Some.command c.args.question.now c.in-Ok.reply c.apply.new.self c.args.disk.now c.apply.new.disk copied.0 copied.1 (c.in-Ok.ensures.applies state at told)

pub returns-in-Err-clause-refused : goal.returns-in-Err-clause-refused
returns-in-Err-clause-refused g c told =
    subst (λ (e : AskError). NotAsked (IsAt g.D.Disk c.args.store.now c.args.disk.now) e) (sym c.asked_error.ensures)
    (not_applied_asked g.D.Disk c.in-Err.error c.args.store.now c.apply.new.self c.args.disk.now c.apply.new.disk c.in-Err.ensures.refused told)
