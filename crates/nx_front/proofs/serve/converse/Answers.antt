use Rattle.std.proofs.Common.{◌≡◌, true, false, [], ◌++◌, Err, sym, ap, ◌∙◌, subst}
use Rattle.std.proofs.lemmas.Bool.{MatchBool-at_true}
use Rattle.std.proofs.lemmas.Result.{err_from_is_err_and}
use Rattle.nx_script.specs.Requests.{AreRequests, AreWholeRequests}
use Rattle.nx_script.proofs.RequestLemmas.{requests_stop}
use Rattle.nx_filters.specs.declared.status.Status.{Status}
use Rattle.nx_filters.specs.declared.status.Status.TheVariants.{NoMemory}
use Rattle.nx_filters.specs.TakeError.{status_of_script, status_of_give_error}
use Rattle.nx_front.specs.Conversation.{Converses, conversation_status}
use Rattle.nx_front.proofs.ClockLemmas.{HasClock}
use Rattle.nx_front.proofs.ConversationLemmas.{conversing_none, conversing_given, conversing_filled, converses_blocked, converses_done, converses_unfilled, converses_unbegun}
use Rattle.nx_front.proofs.serve.converse.Given.{Over}
use Rattle.nx_front.proofs.serve.converse.Goals as goal

clock : (g : Over) → HasClock g.H.Disk
clock g = record { stands_now = g.met.H.Disk.stands_now; only_now = g.met.H.Disk.only_now }

pub returns-in_err-script : goal.returns-in_err-script
returns-in_err-script g c =
    let p = err_from_is_err_and c.from_residual.result c.from_residual.ensures.1 in
    let is : conversation_status c.from_residual.result ≡ NoMemory = ap conversation_status p.1 ∙ p.2 ∙ ap status_of_script c.in_err-script.ensures.err in
    subst (λ (s : Status). Converses g.H.Disk c.args.store.now s c.args.host.now c.args.host.now) (sym is) (converses_unbegun (clock g))

pub loop-block-init : goal.loop-block-init
loop-block-init g c = ([], [], conversing_none c.new-block.ensures (c.in_ok-script.ensures.ok (g.H.Disk.beside c.args.host.now).input))

pub returns-in_err-answer_ready : goal.returns-in_err-answer_ready
returns-in_err-answer_ready g c =
    let p = err_from_is_err_and c.from_residual-in_err-answer_ready.result c.from_residual-in_err-answer_ready.ensures.1 in
    let is : conversation_status c.from_residual-in_err-answer_ready.result ≡ c.in_err-answer_ready.field-0.0 = ap conversation_status p.1 ∙ p.2 in
    let (taken, requests, talk) = c.loop-block.invariant in
    subst (λ (s : Status). Converses g.H.Disk c.args.store.now s c.args.host.now c.answer_ready.new.host) (sym is)
    (c.in_err-answer_ready.ensures.err c.args.host.now c.args.store.now taken requests talk)

pub returns-in_err-give_block : goal.returns-in_err-give_block
returns-in_err-give_block g c =
    let p = err_from_is_err_and c.from_residual-in_err-give_block.result c.from_residual-in_err-give_block.ensures.1 in
    let error = c.in_err-give_block.field-0.0 in
    let is : conversation_status c.from_residual-in_err-give_block.result ≡ status_of_give_error error = ap conversation_status p.1 ∙ p.2 in
    let (taken, requests, talk) = c.loop-block.invariant in
    let (more, whole, did) = c.in_ok-answer_ready.ensures.ok c.args.host.now c.args.store.now taken requests talk in
    subst (λ (s : Status). Converses g.H.Disk c.args.store.now s c.args.host.now c.give_block.new.host) (sym is)
    (converses_blocked error (clock g) did c.in_err-give_block.ensures.given c.give_block.ensures.alone)

pub returns-then-is_ended : goal.returns-then-is_ended
returns-then-is_ended g c =
    let (taken, requests, talk) = c.loop-block.invariant in
    let (more, whole, did) = c.in_ok-answer_ready.ensures.ok c.args.host.now c.args.store.now taken requests talk in
    let empty = c.in_ok-give_block.ensures.empty in
    let ended : (c.answer_ready.new.script.script).ended ≡ true = sym c.is_ended.ensures ∙ c.if-is_ended.true in
    converses_done (clock g) (conversing_given did empty c.in_ok-give_block.ensures.given c.give_block.ensures.alone) empty ended
    (MatchBool-at_true (AreRequests taken (requests ++ more)) (AreWholeRequests taken (requests ++ more)) ended whole)

pub loop-block-preserved : goal.loop-block-preserved
loop-block-preserved g c =
    let (taken, requests, talk) = c.loop-block.invariant in
    let (more, whole, did) = c.in_ok-answer_ready.ensures.ok c.args.host.now c.args.store.now taken requests talk in
    let after = conversing_given did c.in_ok-give_block.ensures.empty c.in_ok-give_block.ensures.given c.give_block.ensures.alone in
    let (bytes, given) = c.in_ok-fill.ensures.ok (g.H.Disk.beside c.args.host.now).input taken (requests ++ more) after.given in
    (taken ++ bytes, requests ++ more, conversing_filled after given c.fill.ensures.alone)

pub returns-in_err-fill : goal.returns-in_err-fill
returns-in_err-fill g c =
    let p = err_from_is_err_and c.from_residual-in_err-fill.result c.from_residual-in_err-fill.ensures.1 in
    let error = c.in_err-fill.field-0.0 in
    let is : conversation_status c.from_residual-in_err-fill.result ≡ status_of_script error = ap conversation_status p.1 ∙ p.2 in
    let (taken, requests, talk) = c.loop-block.invariant in
    let (more, whole, did) = c.in_ok-answer_ready.ensures.ok c.args.host.now c.args.store.now taken requests talk in
    let empty = c.in_ok-give_block.ensures.empty in
    let after = conversing_given did empty c.in_ok-give_block.ensures.given c.give_block.ensures.alone in
    let unended : (c.answer_ready.new.script.script).ended ≡ false = sym c.is_ended.ensures ∙ c.if-is_ended.false in
    let given = c.in_err-fill.ensures.err (g.H.Disk.beside c.args.host.now).input taken (requests ++ more) after.given in
    let last = conversing_filled after given c.fill.ensures.alone in
    let stopped = requests_stop c.answer_ready.new.script c.fill.new.self {error = error} [] taken c.in_err-fill.ensures.errors c.in_err-fill.ensures.too_much unended after.given (after.given.given, whole) given in
    subst (λ (s : Status). Converses g.H.Disk c.args.store.now s c.args.host.now c.fill.new.host) (sym is)
    (converses_unfilled error (clock g) last empty after.goes.counts.read (λ e. c.in_err-fill.ensures.cause (ap (λ v. Err v) e)) stopped)
