use Rattle.std.proofs.Common.{sym, ap, subst}
use Rattle.nx_filters.specs.declared.status.Status.{Status}
use Rattle.nx_front.specs.Conversation.{conversation_status}
use Rattle.nx_front.specs.Finding.{Finds}
use Rattle.nx_front.proofs.FindingLemmas.{finds_opened, finds_unopened}
use Rattle.nx_front.proofs.find.answer_questions.Goals as goal

pub returns-in-Ok-answer_all : goal.returns-in-Ok-answer_all
returns-in-Ok-answer_all g c =
    subst (λ (s : Status). Finds g.H.Disk s c.args.host.now c.answer_all.new.host) (ap conversation_status c.in-Ok-answer_all.is)
    (finds_opened (conversation_status c.answer_all.result) c.open_to_read.ensures.still c.in-Ok.ensures.ok c.in-Ok.ensures.marked c.open_to_read.ensures.reads c.answer_all.ensures)

pub returns-in-Ok : goal.returns-in-Ok
returns-in-Ok g c =
    subst (λ (s : Status). Finds g.H.Disk s c.args.host.now c.answer_all.new.host) (ap conversation_status c.in-Err-answer_all.is)
    (finds_opened (conversation_status c.answer_all.result) c.open_to_read.ensures.still c.in-Ok.ensures.ok c.in-Ok.ensures.marked c.open_to_read.ensures.reads c.answer_all.ensures)

pub returns : goal.returns
returns g c =
    subst (λ (s : Status). Finds g.H.Disk s c.args.host.now c.open_to_read.new.disk) (sym c.status_of.ensures)
    (finds_unopened g.H.Disk c.args.host.now c.open_to_read.new.disk c.in-Err.error c.open_to_read.ensures.still c.in-Err.ensures.refused c.open_to_read.ensures.reads)
