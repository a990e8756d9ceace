use Rattle.std.proofs.Common.{sym, ap, subst}
use Rattle.nx_filters.specs.declared.status.Status.{Status}
use Rattle.nx_front.specs.Conversation.{conversation_status}
use Rattle.nx_front.specs.Asking.{Asks}
use Rattle.nx_front.proofs.AskingLemmas.{asks_taken, asks_untaken}
use Rattle.nx_front.proofs.ask.ask.Goals as goal

pub returns-in-Ok-answer_input : goal.returns-in-Ok-answer_input
returns-in-Ok-answer_input g c =
    subst (λ (s : Status). Asks g.H.Disk s c.args.host.now c.answer_input.new.host) (ap conversation_status c.in-Ok-answer_input.is)
    (asks_taken (conversation_status c.answer_input.result) c.take.ensures.still c.take.ensures.reads c.in-Ok.ensures.pages c.answer_input.ensures)

pub returns-in-Ok : goal.returns-in-Ok
returns-in-Ok g c =
    subst (λ (s : Status). Asks g.H.Disk s c.args.host.now c.answer_input.new.host) (ap conversation_status c.in-Err-answer_input.is)
    (asks_taken (conversation_status c.answer_input.result) c.take.ensures.still c.take.ensures.reads c.in-Ok.ensures.pages c.answer_input.ensures)

pub returns : goal.returns
returns g c =
    subst (λ (s : Status). Asks g.H.Disk s c.args.host.now c.take.new.disk) (sym c.status_of_asking.ensures)
    (asks_untaken g.H.Disk c.args.host.now c.take.new.disk c.in-Err.error c.take.ensures.still c.take.ensures.reads c.in-Err.ensures.refused)
