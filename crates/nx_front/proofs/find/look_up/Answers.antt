use Rattle.std.proofs.Common.{ℕ, List, Option, subst}
use Rattle.std.proofs.lemmas.Result.{err_from_is_err_and}
use Rattle.nx_front.specs.Searching.{ReachesOf}
use Rattle.nx_front.proofs.SearchingLemmas.{looks_up_nothing, looks_up_paths, looks_up_none, unread, unlooked}
use Rattle.nx_front.proofs.find.look_up.Goals as goal

pub returns-in_err-question-clause-err : goal.returns-in_err-question-clause-err
returns-in_err-question-clause-err g c =
    let p = err_from_is_err_and c.from_residual.result c.from_residual.ensures.1 in
    rw (p.1, p.2) (unread c.args.line.now)

pub returns-in_default-clause-ok : goal.returns-in_default-clause-ok
returns-in_default-clause-ok g c = looks_up_nothing c.args.line.now (rw c.in_default.is at c.in_ok-question.ensures)

pub returns-in_err-paths-clause-err : goal.returns-in_err-paths-clause-err
returns-in_err-paths-clause-err g c =
    let p = err_from_is_err_and c.from_residual-in_err-paths.result c.from_residual-in_err-paths.ensures.1 in
    rw (p.1, p.2) (unlooked c.args.line.now c.in-Some.question.name c.in-Some.question.steps (rw c.in-Some.is at c.in_ok-question.ensures) c.in_err-paths.field-0.0 c.in_err-paths.ensures.err)

pub returns-in-Some-2-clause-ok : goal.returns-in-Some-2-clause-ok
returns-in-Some-2-clause-ok g c =
    let name = c.in-Some.question.name in
    let steps = c.in-Some.question.steps in
    looks_up_paths c.args.line.now name steps (rw c.in-Some.is at c.in_ok-question.ensures) c.in-Some-2.paths
    (subst (λ (o : Option (List (List ℕ))). ReachesOf g.D.Disk name steps o c.args.store.now c.reach.new.store c.args.gathered.now c.reach.new.gathered c.args.disk.now c.reach.new.disk) c.in-Some-2.is c.in_ok-paths.ensures.ok)

pub returns-clause-ok : goal.returns-clause-ok
returns-clause-ok g c =
    let name = c.in-Some.question.name in
    let steps = c.in-Some.question.steps in
    looks_up_none c.args.line.now name steps (rw c.in-Some.is at c.in_ok-question.ensures)
    (subst (λ (o : Option (List (List ℕ))). ReachesOf g.D.Disk name steps o c.args.store.now c.reach.new.store c.args.gathered.now c.reach.new.gathered c.args.disk.now c.reach.new.disk) c.in-None.is c.in_ok-paths.ensures.ok)
