use Rattle.std.proofs.Common.{◌≡◌, ℕ, true, List, [], ◌∷◌, ◌++◌, Option, IfSome, Ok, sym, ap, subst, ◌∙◌, append_assoc}
use Rattle.std.proofs.lemmas.Bool.{MatchBool-at_true}
use Rattle.std.proofs.lemmas.Result.{err_from_is_err_and}
use Rattle.nx_host.proofs.PhaseLemmas.{takes_then}
use Rattle.nx_script.specs.declared.request.Request.{Request}
use Rattle.nx_script.specs.Requests.{AreRequests, AreWholeRequests, HasGivenRequests, HasGivenRequestsIn}
use Rattle.nx_script.proofs.ScriptLemmas.{smaller}
use Rattle.nx_script.proofs.RequestLemmas.{requests_stop, requests_stop_memory, in_requests}
use Rattle.nx_script.proofs.requests.Requests.next.Goals as goal

pub loop-request-smaller : goal.loop-request-smaller
loop-request-smaller g c =
    smaller (c.fill.new.self.script).ended
    c.ready.ensures.taken c.ready.ensures.ended (sym c.is_ended.ensures ∙ c.if-is_ended.false) c.fill.ensures.taken ((c.fill.new.self.script).input).few c.in_ok-fill.ensures.more

pub returns-in_err-fill-clause-err : goal.returns-in_err-fill-clause-err
returns-in_err-fill-clause-err g c =
    let p = err_from_is_err_and c.from_residual-in_err-fill.result c.from_residual-in_err-fill.ensures.1 in
    rw (p.1, p.2)
    (λ first taken told given.
    let (more, before) = c.loop-request.invariant.given first taken told given in
    let none = c.in_ok-request.ensures.none (ap (λ (o : Option Request). Ok o) c.in_default.is) (taken ++ more) told before.given in
    let still = in_requests c.loop-request.self c.ready.new.self c.ready.ensures.ended before none.0 in
    requests_stop c.ready.new.self c.fill.new.self taken more c.in_err-fill.ensures.errors
    c.in_err-fill.ensures.too_much (sym c.is_ended.ensures ∙ c.if-is_ended.false) still none (c.in_err-fill.ensures.err first (taken ++ more) told still))

pub returns-in_err-request-clause-err : goal.returns-in_err-request-clause-err
returns-in_err-request-clause-err g c =
    let p = err_from_is_err_and c.from_residual.result c.from_residual.ensures.1 in
    rw (p.1, p.2)
    (λ first taken told given.
    let (more, before) = c.loop-request.invariant.given first taken told given in
    requests_stop_memory c.loop-request.self c.ready.new.self taken more c.in_err-request.ensures.err c.ready.ensures.taken before)

pub returns-in-Some-clause-given : goal.returns-in-Some-clause-given
returns-in-Some-clause-given g c = λ first taken told given.
    let (more, before) = c.loop-request.invariant.given first taken told given in
    let gives = subst (λ (o : Option Request).
    IfSome o (λ request. (bytes : List ℕ) (requests : List Request) → HasGivenRequests c.loop-request.self bytes requests → HasGivenRequests c.ready.new.self bytes (requests ++ request ∷ [])))
    c.in-Some.is c.in_ok-request.ensures.given in
    (more, in_requests c.loop-request.self c.ready.new.self c.ready.ensures.ended before (gives (taken ++ more) told before.given))

pub returns-then-is_ended-clause-given : goal.returns-then-is_ended-clause-given
returns-then-is_ended-clause-given g c = λ first taken told given.
    let (more, before) = c.loop-request.invariant.given first taken told given in
    let none = c.in_ok-request.ensures.none (ap (λ (o : Option Request). Ok o) c.in_default.is) (taken ++ more) told before.given in
    let still = in_requests c.loop-request.self c.ready.new.self c.ready.ensures.ended before none.0 in
    let ended : (c.ready.new.self.script).ended ≡ true = sym c.is_ended.ensures ∙ c.if-is_ended.true in (
      more,
      still,
      record {
        takes = still.takes;
        end = (still.end ended).0;
        few = (still.end ended).1;
        requests_are = MatchBool-at_true (AreRequests (taken ++ more) told) (AreWholeRequests (taken ++ more) told) ended none.1;
      },
    )

pub loop-request-preserved : goal.loop-request-preserved
loop-request-preserved g c = record {
  given = λ first taken told given.
      let (more, before) = c.loop-request.invariant.given first taken told given in
      let none = c.in_ok-request.ensures.none (ap (λ (o : Option Request). Ok o) c.in_default.is) (taken ++ more) told before.given in
      let still = in_requests c.loop-request.self c.ready.new.self c.ready.ensures.ended before none.0 in
      let (further, filled) = c.in_ok-fill.ensures.ok first (taken ++ more) told still in
      (more ++ further, subst (λ (l : List ℕ). HasGivenRequestsIn c.fill.new.self l told first (g.H.Disk.beside c.fill.new.host).input) (append_assoc taken more further) filled);
  alone = takes_then c.loop-request.invariant.alone c.fill.ensures.alone;
}
