use Rattle.std.proofs.Common.{[], ◌∷◌, ◌++◌, Ok, refl, sym, ap, ◌∙◌, append-nil, append_assoc}
use Rattle.std.proofs.lemmas.Result.{err_from_is_err_and}
use Rattle.nx_script.proofs.OneRequestList.{request_can}
use Rattle.nx_filters.specs.TakeError.{status_of_script}
use Rattle.nx_front.proofs.ClockLemmas.{HasClock}
use Rattle.nx_front.proofs.ConversationLemmas.{next_given, conversing_as, conversing_drained, conversing_more, conversing_given, converses_starved, converses_stopped, converses_blocked}
use Rattle.nx_front.proofs.serve.answer_ready.Given.{Over}
use Rattle.nx_front.proofs.serve.answer_ready.Goals as goal

clock : (g : Over) → HasClock g.H.Disk
clock g = record { stands_now = g.met.H.Disk.stands_now; only_now = g.met.H.Disk.only_now }

pub loop-request-init : goal.loop-request-init
loop-request-init g c =
    record {
      answered = λ first begun taken requests talk. ([], conversing_as (requests ++ []) (sym (append-nil requests)) talk);
      given = c.requires;
      taken = refl;
      ended = refl;
    }

pub returns-in_err-request-clause-err : goal.returns-in_err-request-clause-err
returns-in_err-request-clause-err g c =
    let p = err_from_is_err_and c.from_residual.result c.from_residual.ensures.1 in
    rw (p.1, p.2 ∙ ap status_of_script c.in_err-request.ensures.err)
    (λ first begun taken requests talk. converses_starved (clock g) (c.loop-request.invariant.answered first begun taken requests talk).1)

pub returns-in_default-clause-ok : goal.returns-in_default-clause-ok
returns-in_default-clause-ok g c = λ first begun taken requests talk.
    let (more, did) = c.loop-request.invariant.answered first begun taken requests talk in
    let (given, all) = c.ready.ensures.none (c.in_ok-request.was ∙ ap (λ o. Ok o) c.in_default.is) taken (requests ++ more) did.given.given in
    (more, all, conversing_drained c.ready.ensures.ended did given)

pub answer-requires : goal.answer-requires
answer-requires g c =
    let (taken, requests, given) = c.loop-request.invariant.given in (
      c.type_bounds.sync-R,
      request_can c.ready.new.self taken requests c.in-Some.request
          (next_given c.loop-request.script c.ready.new.self c.in_ok-request.field-0 c.in-Some.request c.in-Some.is c.in_ok-request.ensures.given taken requests given),
    )

pub returns-in_err-answer-clause-err : goal.returns-in_err-answer-clause-err
returns-in_err-answer-clause-err g c =
    let p = err_from_is_err_and c.from_residual-in_err-answer.result c.from_residual-in_err-answer.ensures.1 in
    rw (p.1, p.2)
    (λ first begun taken requests talk.
    let (more, did) = c.loop-request.invariant.answered first begun taken requests talk in
    let given = next_given c.loop-request.script c.ready.new.self c.in_ok-request.field-0 c.in-Some.request c.in-Some.is c.in_ok-request.ensures.given taken (requests ++ more) did.given.given in
    converses_stopped c.in-Some.request c.in_err-answer.field-0.0 (clock g) c.ready.ensures.ended did given c.answer.ensures.beside c.in_err-answer.ensures.err c.in_err-answer.ensures.cause c.answer.ensures.reads)

pub loop-request-preserved-in-Continue-branch-4 : goal.loop-request-preserved-in-Continue-branch-4
loop-request-preserved-in-Continue-branch-4 g c =
    record {
      answered = λ first begun taken requests talk.
          let (more, did) = c.loop-request.invariant.answered first begun taken requests talk in
          let given = next_given c.loop-request.script c.ready.new.self c.in_ok-request.field-0 c.in-Some.request c.in-Some.is c.in_ok-request.ensures.given taken (requests ++ more) did.given.given in
          let after = conversing_more c.in-Some.request c.ready.ensures.ended did given c.answer.ensures.beside c.in_ok-answer.ensures.ok c.in_ok-answer.ensures.holds c.answer.ensures.reads in (
            more ++ c.in-Some.request ∷ [],
            conversing_as (requests ++ (more ++ c.in-Some.request ∷ [])) (append_assoc requests more (c.in-Some.request ∷ []))
                (conversing_given after c.in_ok-give_block.ensures.empty c.in_ok-give_block.ensures.given c.give_block.ensures.alone),
          );
      given =
          let (taken, requests, given) = c.loop-request.invariant.given in (
            taken,
            requests ++ c.in-Some.request ∷ [],
            next_given c.loop-request.script c.ready.new.self c.in_ok-request.field-0 c.in-Some.request c.in-Some.is c.in_ok-request.ensures.given taken requests given,
          );
      taken = c.ready.ensures.taken ∙ c.loop-request.invariant.taken;
      ended = c.ready.ensures.ended ∙ c.loop-request.invariant.ended;
    }

pub returns-in_err-give_block-clause-err : goal.returns-in_err-give_block-clause-err
returns-in_err-give_block-clause-err g c =
    let p = err_from_is_err_and c.from_residual-in_err-give_block.result c.from_residual-in_err-give_block.ensures.1 in
    rw (p.1, p.2)
    (λ first begun taken requests talk.
    let (more, did) = c.loop-request.invariant.answered first begun taken requests talk in
    let given = next_given c.loop-request.script c.ready.new.self c.in_ok-request.field-0 c.in-Some.request c.in-Some.is c.in_ok-request.ensures.given taken (requests ++ more) did.given.given in
    let after = conversing_more c.in-Some.request c.ready.ensures.ended did given c.answer.ensures.beside c.in_ok-answer.ensures.ok c.in_ok-answer.ensures.holds c.answer.ensures.reads in
    converses_blocked c.in_err-give_block.field-0.0 (clock g) after c.in_err-give_block.ensures.given c.give_block.ensures.alone)

pub loop-request-preserved : goal.loop-request-preserved
loop-request-preserved g c =
    record {
      answered = λ first begun taken requests talk.
          let (more, did) = c.loop-request.invariant.answered first begun taken requests talk in
          let given = next_given c.loop-request.script c.ready.new.self c.in_ok-request.field-0 c.in-Some.request c.in-Some.is c.in_ok-request.ensures.given taken (requests ++ more) did.given.given in (
            more ++ c.in-Some.request ∷ [],
            conversing_as (requests ++ (more ++ c.in-Some.request ∷ [])) (append_assoc requests more (c.in-Some.request ∷ []))
                (conversing_more c.in-Some.request c.ready.ensures.ended did given c.answer.ensures.beside c.in_ok-answer.ensures.ok c.in_ok-answer.ensures.holds c.answer.ensures.reads),
          );
      given =
          let (taken, requests, given) = c.loop-request.invariant.given in (
            taken,
            requests ++ c.in-Some.request ∷ [],
            next_given c.loop-request.script c.ready.new.self c.in_ok-request.field-0 c.in-Some.request c.in-Some.is c.in_ok-request.ensures.given taken requests given,
          );
      taken = c.ready.ensures.taken ∙ c.loop-request.invariant.taken;
      ended = c.ready.ensures.ended ∙ c.loop-request.invariant.ended;
    }
