use Rattle.std.specs.Prelude.{Some}
use Rattle.std.proofs.lemmas.Result.{IfOk-weaker, IfErr-weaker}
use Rattle.nx_state.specs.Stands.{Recovers}
use Rattle.nx_store.specs.Store.{IsAt}
use Rattle.nx_ask.proofs.RowLemmas.{not_asked_of}
use Rattle.nx_ask.proofs.row.answer_over.Goals as goal

pub returns-clause-ok : goal.returns-clause-ok
returns-clause-ok g c =
    IfOk-weaker c.ask.result _ _ (λ reply h. λ told was settled state recovers. (h told state (c.in_ok-store.ensures.ok was settled state recovers)).0) c.ask.ensures.ok

pub returns-clause-refused : goal.returns-clause-refused
returns-clause-refused g c =
    IfErr-weaker c.ask.result _ _
    (λ e h. λ told was settled.
    not_asked_of (IsAt g.D.Disk c.in_ok-store.store c.open_store.new.disk) (λ state. Recovers was (Some state)) e (λ state recovers. c.in_ok-store.ensures.ok was settled state recovers) (h told))
    c.ask.ensures.refused
