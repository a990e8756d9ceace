use Rattle.std.proofs.Common.{◌≡◌, ◌+◌, ◌<◌, ◌≤◌, ℕ, List, [], ◌∷◌, ◌++◌, map, length, Err, Option, refl, sym, ap, ◌∙◌, subst, arith, length-append}
use Rattle.std.specs.Vec.{vec_len}
use Rattle.std.proofs.lemmas.List.{map-append, length-map}
use Rattle.std.proofs.lemmas.Result.{err_from_is_err_and}
use Rattle.nx_host.proofs.PhaseLemmas.{none_taken, takes_then}
use Rattle.nx_script.specs.declared.command.Command.{Command}
use Rattle.nx_script.specs.declared.request.Request.{Request}
use Rattle.nx_script.specs.Requests.{GivesNextRequest}
use Rattle.nx_front.specs.Asking.{as_question, batch_size}
use Rattle.nx_front.specs.Batches.{GivesBesides}
use Rattle.nx_front.proofs.BatchLemmas.{gives_none, gives_more, reads_last, reads_whole, reading_starved, reading_stops}
use Rattle.nx_front.proofs.ask.read_batch.Goals as goal

-- fewer requests came than a batch has
fewer_came : (requests : List Request) (batch : List Command) (n : ℕ) → map as_question requests ≡ batch → n ≡ length batch → n < batch_size → length requests < batch_size
fewer_came requests batch n asks is low =
    let long : length (map as_question requests) ≡ length requests = length-map requests as_question in let same : length (map as_question requests) ≡ length batch = ap length asks in omega (arith, long, same, is, low)

pub loop-script-init : goal.loop-script-init
loop-script-init g c =
    let h = g.H.Disk in
    let none : c.in-Ok.batch.items ≡ [] = c.in-Ok.ensures.items in (
      [],
      record {
        asks = sym none;
        gives = gives_none c.args.script.now (h.beside c.args.host.now).input;
        alone = none_taken;
        most = subst (λ (cs : List Command). length cs ≤ batch_size) (sym none) (omega arith);
      },
    )

pub returns-in_default-clause-err : goal.returns-in_default-clause-err
returns-in_default-clause-err g c =
    reading_starved g.H.Disk c.args.script.now c.args.host.now c.args.host.now (gives_none c.args.script.now (g.H.Disk.beside c.args.host.now).input)

pub returns-in_err-request-clause-err : goal.returns-in_err-request-clause-err
returns-in_err-request-clause-err g c =
    let (came, so_far) = c.loop-script.invariant in
    let same = c.loop-script.batch.ok.0 in
    let low : vec_len c.loop-script.batch < batch_size = subst (λ (n : ℕ). n < batch_size) c.len.ensures c.loop-script-test.true in
    let p = err_from_is_err_and c.from_residual.result c.from_residual.ensures.1 in
    rw (p.1, p.2)
    (reading_stops g.H.Disk c.next.new.self c.next.new.host c.in_err-request.field-0.0 so_far.gives (fewer_came came c.loop-script.batch.items (vec_len c.loop-script.batch) so_far.asks same low) so_far.alone
    (λ e. c.in_err-request.ensures.cause (ap (λ v. Err v) e)) c.in_err-request.ensures.err)

pub returns-in_default-2-clause-ok : goal.returns-in_default-2-clause-ok
returns-in_default-2-clause-ok g c =
    let (came, so_far) = c.loop-script.invariant in
    let same = c.loop-script.batch.ok.0 in
    let low : vec_len c.loop-script.batch < batch_size = subst (λ (n : ℕ). n < batch_size) c.len.ensures c.loop-script-test.true in
    record {
      requests = came;
      asks = so_far.asks;
      gives = reads_last so_far.gives (fewer_came came c.loop-script.batch.items (vec_len c.loop-script.batch) so_far.asks same low)
          (λ first taken requests given.
          subst (λ (o : Option Request). GivesNextRequest o c.next.new.self taken requests first (g.H.Disk.beside c.next.new.host).input) c.in_default-2.is (c.in_ok-request.ensures.given first taken requests given));
    }

pub loop-script-preserved : goal.loop-script-preserved
loop-script-preserved g c =
    let h = g.H.Disk in
    let (came, so_far) = c.loop-script.invariant in
    let same = c.loop-script.batch.ok.0 in
    let low : vec_len c.loop-script.batch < batch_size = subst (λ (n : ℕ). n < batch_size) c.len.ensures c.loop-script-test.true in
    let fewer : length c.loop-script.batch.items < batch_size = omega (arith, same, low) in
    let one = c.as_question.result in
    let longer : length (c.loop-script.batch.items ++ one ∷ []) ≡ length c.loop-script.batch.items + 1 = length-append c.loop-script.batch.items (one ∷ []) in (
      came ++ c.in-Some.request ∷ [],
      record {
        asks = map-append as_question came (c.in-Some.request ∷ []) ∙ ap (λ (cs : List Command). cs ++ as_question c.in-Some.request ∷ []) so_far.asks
            ∙ ap (λ (q : Command). c.loop-script.batch.items ++ q ∷ []) (sym c.as_question.ensures) ∙ sym c.in-Ok-push.ensures.items;
        gives = gives_more so_far.gives c.in-Some.request
            (λ first taken requests given.
            subst (λ (o : Option Request). GivesNextRequest o c.next.new.self taken requests first (h.beside c.next.new.host).input) c.in-Some.is (c.in_ok-request.ensures.given first taken requests given));
        alone = takes_then so_far.alone c.next.ensures.alone;
        most = subst (λ (cs : List Command). length cs ≤ batch_size) (sym c.in-Ok-push.ensures.items) (omega (arith, longer, fewer));
      },
    )

pub returns-in_default-push-clause-err : goal.returns-in_default-push-clause-err
returns-in_default-push-clause-err g c =
    let h = g.H.Disk in
    let (came, so_far) = c.loop-script.invariant in
    reading_starved h c.next.new.self c.args.host.now c.next.new.host
    (gives_more so_far.gives c.in-Some.request
    (λ first taken requests given.
    subst (λ (o : Option Request). GivesNextRequest o c.next.new.self taken requests first (h.beside c.next.new.host).input) c.in-Some.is (c.in_ok-request.ensures.given first taken requests given)))

pub returns-clause-ok : goal.returns-clause-ok
returns-clause-ok g c =
    let (came, so_far) = c.loop-script.invariant in
    let same = c.loop-script.batch.ok.0 in
    let high : batch_size ≤ vec_len c.loop-script.batch = subst (λ (n : ℕ). batch_size ≤ n) c.len.ensures c.loop-script-test.false in
    let long : length (map as_question came) ≡ length came = length-map came as_question in
    let asked : length (map as_question came) ≡ length c.loop-script.batch.items = ap length so_far.asks in
    let most = so_far.most in
    record { requests = came; asks = so_far.asks; gives = reads_whole so_far.gives (omega (arith, same, high, long, asked, most)) }
