use Rattle.std.proofs.Common.{◌≡◌, false, sym, ◌∙◌, subst}
use Rattle.nx_filters.specs.declared.status.Status.{Status}
use Rattle.nx_memory_session.specs.Session.{EndsMaking}
use Rattle.nx_memory_session.proofs.SessionLemmas.{unmade}
use Rattle.nx_memory_session.proofs.session.make_and_answer.Goals as goal

pub returns-in_default : goal.returns-in_default
returns-in_default g c = λ settings script is few fresh told.
    unmade settings script c.make_store.result c.make_store.new.host c.in_default.not-Done (c.make_store.ensures settings script is fresh told)

pub returns : goal.returns
returns g c = λ settings script is few fresh told.
    let had_room : c.make_store.new.host.full ≡ false = sym c.is_full.ensures ∙ c.if-is_full.false in
    let made = c.make_store.ensures settings script is fresh had_room in
    c.answer.ensures settings script few (subst (λ (s : Status). EndsMaking settings script s c.make_store.new.host) c.in-Done.is made) had_room told
