use Rattle.std.proofs.Common.{◌≡◌, ◌<◌, ◌≤◌, ℕ, List, [], ◌++◌, map, length, inl, inr, sym, ap, ◌∙◌, subst, arith}
use Rattle.std.specs.Vec.{vec_len}
use Rattle.std.proofs.lemmas.List.{length-map}
use Rattle.std.proofs.lemmas.Result.{err_from_is_err_and}
use Rattle.nx_script.specs.declared.command.Command.{Command}
use Rattle.nx_script.specs.declared.request.Request.{Request}
use Rattle.nx_filters.specs.declared.status.Status.{Status}
use Rattle.nx_filters.specs.declared.status.Status.TheVariants.{NoMemory}
use Rattle.nx_filters.specs.TakeError.{status_of_script}
use Rattle.nx_front.specs.Conversation.{conversation_status}
use Rattle.nx_front.specs.Asking.{as_question, batch_size}
use Rattle.nx_front.specs.Batches.{AnswersBatch, LeavesBatch, AsksAll}
use Rattle.nx_front.proofs.AskingLemmas.{asking_none, asking_more, asks_done, asks_unanswered, asks_unread, asks_given_up, asks_unbegun}
use Rattle.nx_front.proofs.ask.answer_input.Goals as goal

-- a batch has as many questions as requests came
as_many : (requests : List Request) (batch : List Command) (n : ℕ) → map as_question requests ≡ batch → n ≡ length batch → n ≡ length requests
as_many requests batch n asks is = is ∙ sym (ap length asks) ∙ length-map requests as_question

pub returns-in_err-script : goal.returns-in_err-script
returns-in_err-script g c =
    let p = err_from_is_err_and c.from_residual.result c.from_residual.ensures.1 in
    let is : conversation_status c.from_residual.result ≡ NoMemory = ap conversation_status p.1 ∙ p.2 ∙ ap status_of_script c.in_err-script.ensures.err in
    subst (λ (s : Status). AsksAll g.H.Disk c.args.snapshot.now s c.args.host.now c.args.host.now) (sym is) asks_unbegun

pub loop-init : goal.loop-init
loop-init g c = ([], [], asking_none (c.in_ok-script.ensures.ok (g.H.Disk.beside c.args.host.now).input))

pub returns-in_err-batch : goal.returns-in_err-batch
returns-in_err-batch g c =
    let p = err_from_is_err_and c.from_residual-in_err-batch.result c.from_residual-in_err-batch.ensures.1 in
    let status = c.in_err-batch.field-0.0 in
    let is : conversation_status c.from_residual-in_err-batch.result ≡ status = ap conversation_status p.1 ∙ p.2 in
    let (taken, requests, asks) = c.loop.invariant in
    subst (λ (s : Status). AsksAll g.H.Disk c.args.snapshot.now s c.args.host.now c.read_batch.new.host) (sym is)
    (asks_unread status c.read_batch.new.script asks c.read_batch.ensures.alone c.in_err-batch.ensures.err)

pub returns-in_err-answer_batch : goal.returns-in_err-answer_batch
returns-in_err-answer_batch g c =
    let h = g.H.Disk in
    let p = err_from_is_err_and c.from_residual-in_err-answer_batch.result c.from_residual-in_err-answer_batch.ensures.1 in
    let status = c.in_err-answer_batch.field-0.0 in
    let is : conversation_status c.from_residual-in_err-answer_batch.result ≡ status = ap conversation_status p.1 ∙ p.2 in
    let (taken, requests, asks) = c.loop.invariant in
    let read = c.in_ok-batch.ensures.ok in
    let (more, given, ends) = read.gives (h.beside c.args.host.now).input taken requests asks.given in
    subst (λ (s : Status). AsksAll h c.args.snapshot.now s c.args.host.now c.answer_batch.new.host) (sym is)
    (asks_unanswered read.requests status asks c.read_batch.ensures.alone given
    (subst (λ (cs : List Command). LeavesBatch h status c.args.snapshot.now cs c.read_batch.new.host c.answer_batch.new.host) (c.as_slice.ensures.value ∙ sym read.asks) c.in_err-answer_batch.ensures.err))

pub returns-then-len-lt-BATCH : goal.returns-then-len-lt-BATCH
returns-then-len-lt-BATCH g c =
    let h = g.H.Disk in
    let (taken, requests, asks) = c.loop.invariant in
    let read = c.in_ok-batch.ensures.ok in
    let (more, given, which) = read.gives (h.beside c.args.host.now).input taken requests asks.given in
    let answers : AnswersBatch h c.args.snapshot.now (map as_question read.requests) c.read_batch.new.host c.answer_batch.new.host =
    subst (λ (cs : List Command). AnswersBatch h c.args.snapshot.now cs c.read_batch.new.host c.answer_batch.new.host) (c.as_slice.ensures.value ∙ sym read.asks) c.in_ok-answer_batch.ensures.ok in
    let same : vec_len c.in_ok-batch.batch ≡ length read.requests = as_many read.requests c.in_ok-batch.batch.items (vec_len c.in_ok-batch.batch) read.asks c.in_ok-batch.batch.ok.0 in
    let low : vec_len c.in_ok-batch.batch < batch_size = subst (λ (n : ℕ). n < batch_size) c.len.ensures c.if-len-lt-BATCH.true in
    elim which [
      | inl whole ↦ absurd (omega (arith, same, low, whole))
      | inr (fewer, ends) ↦ asks_done read.requests asks c.read_batch.ensures.alone given ends answers
    ]

pub loop-preserved : goal.loop-preserved
loop-preserved g c =
    let h = g.H.Disk in
    let (taken, requests, asks) = c.loop.invariant in
    let read = c.in_ok-batch.ensures.ok in
    let (more, given, which) = read.gives (h.beside c.args.host.now).input taken requests asks.given in
    let answers : AnswersBatch h c.args.snapshot.now (map as_question read.requests) c.read_batch.new.host c.answer_batch.new.host =
    subst (λ (cs : List Command). AnswersBatch h c.args.snapshot.now cs c.read_batch.new.host c.answer_batch.new.host) (c.as_slice.ensures.value ∙ sym read.asks) c.in_ok-answer_batch.ensures.ok in
    let same : vec_len c.in_ok-batch.batch ≡ length read.requests = as_many read.requests c.in_ok-batch.batch.items (vec_len c.in_ok-batch.batch) read.asks c.in_ok-batch.batch.ok.0 in
    let high : batch_size ≤ vec_len c.in_ok-batch.batch = subst (λ (n : ℕ). batch_size ≤ n) c.len.ensures c.if-len-lt-BATCH.false in
    let whole : length read.requests ≡ batch_size = elim which [
      | inl is ↦ is
      | inr (fewer, ends) ↦ absurd (omega (arith, same, high, fewer))
    ] in
    (taken ++ more, requests ++ read.requests, asking_more read.requests asks c.read_batch.ensures.alone given whole answers)

pub returns : goal.returns
returns g c = let (taken, requests, asks) = c.loop.invariant in asks_given_up asks
