use Rattle.std.proofs.lemmas.Result.{err_from_is_err_and}
use Rattle.std.proofs.Common.{◌∙◌}
use Rattle.nx_host.specs.Host.{AppendsPrefix}
use Rattle.nx_store.proofs.ReadLemmas.{given_holds, unasked_holds}
use Rattle.nx_store.proofs.StayingLemmas.{holds_later}
use Rattle.nx_front.proofs.ClockLemmas.{HasClock}
use Rattle.nx_front.proofs.ServeLemmas.{block_begins, loud_answers, loud_begins}
use Rattle.nx_front.proofs.serve.answer_alone.Given.{Over}
use Rattle.nx_front.proofs.serve.answer_alone.Goals as goal

clock : (g : Over) → HasClock g.H.Disk
clock g = record { stands_now = g.met.H.Disk.stands_now; only_now = g.met.H.Disk.only_now }

pub returns-in_err-give_block-clause-err : goal.returns-in_err-give_block-clause-err
returns-in_err-give_block-clause-err g c =
    let p = err_from_is_err_and c.from_residual.result c.from_residual.ensures.1 in
    rw (p.1, p.2) (block_begins c.args.request c.in_err-give_block.field-0.0 (clock g) c.give_block.ensures.alone)

pub returns-in-Err-clause-err : goal.returns-in-Err-clause-err
returns-in-Err-clause-err g c =
    rw c.status_of.ensures
    (loud_begins c.answer.new.self c.args.request c.in-Err.error (clock g) c.in_ok-give_block.ensures.empty c.in_ok-give_block.ensures.given c.give_block.ensures.alone c.answer.ensures.beside c.in-Err.ensures.answers)

pub returns-clause-ok : goal.returns-clause-ok
returns-clause-ok g c =
    loud_answers c.args.request c.in_ok-give_block.ensures.empty c.in_ok-give_block.ensures.given c.give_block.ensures.alone c.answer.ensures.beside c.in_default.ensures.answers

pub returns-clause-holds : goal.returns-clause-holds
returns-clause-holds g c quiet =
    holds_later g.H.Disk c.args.store.now c.args.store.now c.answer.new.self c.args.host.now c.give_block.new.host c.answer.new.host
    (given_holds g.H.Disk c.args.store.now c.args.store.now c.args.host.now c.args.host.now c.give_block.new.host
    (AppendsPrefix c.args.block.now (g.H.Disk.beside c.args.host.now).output) c.give_block.ensures.alone.areas (unasked_holds g.H.Disk c.args.store.now c.args.host.now))
    c.answer.ensures.beside.told (c.in_default.ensures.holds quiet)

pub returns-in_err-give_block-clause-unread : goal.returns-in_err-give_block-clause-unread
returns-in_err-give_block-clause-unread g c none = c.give_block.ensures.alone.areas.reads_stay

pub returns-in-Err-clause-unread : goal.returns-in-Err-clause-unread
returns-in-Err-clause-unread g c none = c.answer.ensures.unread none ∙ c.give_block.ensures.alone.areas.reads_stay

pub returns-clause-unread : goal.returns-clause-unread
returns-clause-unread g c none = c.answer.ensures.unread none ∙ c.give_block.ensures.alone.areas.reads_stay
