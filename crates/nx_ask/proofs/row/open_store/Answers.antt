use Rattle.std.proofs.Common.{sym, subst}
use Rattle.std.specs.Prelude.{Some}
use Rattle.nx_state.specs.Stands.{Recovers}
use Rattle.nx_ask.specs.declared.error.AskError.{AskError}
use Rattle.nx_ask.specs.Asked.{NotAsked}
use Rattle.nx_ask.proofs.StoreLemmas.{not_opened_asked}
use Rattle.nx_ask.proofs.row.open_store.Goals as goal

pub returns-in-Ok-clause-ok : goal.returns-in-Ok-clause-ok
returns-in-Ok-clause-ok g c was settled state recovers = c.in-Ok.ensures.ok was state settled recovers

pub returns-in-Err-clause-refused : goal.returns-in-Err-clause-refused
returns-in-Err-clause-refused g c was settled =
    subst (λ (e : AskError). NotAsked (λ state. Recovers was (Some state)) e) (sym c.asked_error.ensures)
    (not_opened_asked g.D.Disk c.in-Err.error c.args.disk.now c.open_to_read.new.disk c.in-Err.ensures.refused was settled)
