use Rattle.std.proofs.Common.{sym, ap, subst}
use Rattle.nx_filters.specs.declared.status.Status.{Status}
use Rattle.nx_front.specs.Serving.{Serves}
use Rattle.nx_front.specs.Conversation.{conversation_status}
use Rattle.nx_front.proofs.ClockLemmas.{HasClock}
use Rattle.nx_front.proofs.ConversationLemmas.{serves_opened, serves_unopened}
use Rattle.nx_front.proofs.serve.serve.Given.{Over}
use Rattle.nx_front.proofs.serve.serve.Goals as goal

clock : (g : Over) → HasClock g.H.Disk
clock g = record { stands_now = g.met.H.Disk.stands_now; only_now = g.met.H.Disk.only_now }

pub returns-in-Ok-converse : goal.returns-in-Ok-converse
returns-in-Ok-converse g c =
    subst (λ (s : Status). Serves g.H.Disk s c.args.host.now c.converse.new.host) (ap conversation_status c.in-Ok-converse.is)
    (serves_opened (conversation_status c.converse.result) c.open.ensures.still c.in-Ok.ensures.renewed c.in-Ok.ensures.ok c.in-Ok.ensures.marked c.open.ensures.reads c.converse.ensures)

pub returns-in-Ok : goal.returns-in-Ok
returns-in-Ok g c =
    subst (λ (s : Status). Serves g.H.Disk s c.args.host.now c.converse.new.host) (ap conversation_status c.in-Err-converse.is)
    (serves_opened (conversation_status c.converse.result) c.open.ensures.still c.in-Ok.ensures.renewed c.in-Ok.ensures.ok c.in-Ok.ensures.marked c.open.ensures.reads c.converse.ensures)

pub returns : goal.returns
returns g c =
    subst (λ (s : Status). Serves g.H.Disk s c.args.host.now c.open.new.disk) (sym c.status_of.ensures)
    (serves_unopened g.H.Disk c.args.host.now c.open.new.disk c.in-Err.error (clock g) c.open.ensures.still c.in-Err.ensures.refused c.open.ensures.reads)
