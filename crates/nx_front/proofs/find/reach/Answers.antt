use Rattle.std.proofs.Common.{◌≡◌, ℕ, List, true, false, sym, subst, ◌∙◌}
use Rattle.std.specs.Prelude.{is_some}
use Rattle.std.proofs.lemmas.Result.{err_from_is_err_and}
use Rattle.nx_front.specs.Gathered.{labels_in}
use Rattle.nx_front.specs.Searching.{GathersOf, StopsGathering}
use Rattle.nx_front.proofs.SearchingLemmas.{ok_then, err_then, reaches_gathered, unreached_gathered, unreached_ungathered, reaches_newly, unreached_newly}
use Rattle.nx_front.proofs.find.reach.Goals as goal

pub returns-then-has-clause-ok : goal.returns-then-has-clause-ok
returns-then-has-clause-ok g c =
    let name = c.args.question.now.name in
    let there = subst (λ (n : List ℕ). is_some (labels_in c.args.gathered.now n) ≡ true) c.as_slice.ensures (sym c.has.ensures ∙ c.if-has.true) in
    ok_then c.search.result (λ paths did. reaches_gathered name c.args.question.now.steps paths there did) c.search.ensures.ok

pub returns-then-has-clause-err : goal.returns-then-has-clause-err
returns-then-has-clause-err g c =
    let name = c.args.question.now.name in
    let there = subst (λ (n : List ℕ). is_some (labels_in c.args.gathered.now n) ≡ true) c.as_slice.ensures (sym c.has.ensures ∙ c.if-has.true) in
    err_then c.search.result (λ status stops. unreached_gathered name c.args.question.now.steps status there stops) c.search.ensures.err

pub returns-in_err-gather-clause-err : goal.returns-in_err-gather-clause-err
returns-in_err-gather-clause-err g c =
    let name = c.args.question.now.name in
    let lacks = subst (λ (n : List ℕ). is_some (labels_in c.args.gathered.now n) ≡ false) c.as_slice.ensures (sym c.has.ensures ∙ c.if-has.false) in
    let status = c.in_err-gather.field-0.0 in
    let p = err_from_is_err_and c.from_residual.result c.from_residual.ensures.1 in
    rw (p.1, p.2)
    (unreached_ungathered name c.args.question.now.steps status lacks
    (subst (λ (n : List ℕ). StopsGathering g.D.Disk n status c.args.store.now c.args.gathered.now c.args.disk.now c.gather.new.disk) c.as_slice-2.ensures c.in_err-gather.ensures.err))

pub returns-clause-ok : goal.returns-clause-ok
returns-clause-ok g c =
    let name = c.args.question.now.name in
    let lacks = subst (λ (n : List ℕ). is_some (labels_in c.args.gathered.now n) ≡ false) c.as_slice.ensures (sym c.has.ensures ∙ c.if-has.false) in
    let got = subst (λ (n : List ℕ). GathersOf g.D.Disk n c.args.store.now c.gather.new.store c.args.gathered.now c.gather.new.gathered c.args.disk.now c.gather.new.disk) c.as_slice-2.ensures
    c.in_ok-gather.ensures.ok in
    ok_then c.search-2.result (λ paths did. reaches_newly name c.args.question.now.steps paths lacks got did) c.search-2.ensures.ok

pub returns-clause-err : goal.returns-clause-err
returns-clause-err g c =
    let name = c.args.question.now.name in
    let lacks = subst (λ (n : List ℕ). is_some (labels_in c.args.gathered.now n) ≡ false) c.as_slice.ensures (sym c.has.ensures ∙ c.if-has.false) in
    let got = subst (λ (n : List ℕ). GathersOf g.D.Disk n c.args.store.now c.gather.new.store c.args.gathered.now c.gather.new.gathered c.args.disk.now c.gather.new.disk) c.as_slice-2.ensures
    c.in_ok-gather.ensures.ok in
    err_then c.search-2.result (λ status stops. unreached_newly name c.args.question.now.steps status lacks got stops) c.search-2.ensures.err
