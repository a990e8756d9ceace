use Rattle.std.proofs.Common.{ℕ, List, None, sym, subst}
use Rattle.nx_filters.specs.declared.status.Status.{Status}
use Rattle.nx_front.specs.Searching.{SearchesOf, StopsSearching}
use Rattle.nx_front.proofs.SearchingLemmas.{searches_found, searches_stopped, searches_absent}
use Rattle.nx_front.proofs.find.search.Goals as goal

pub returns-in-Ok-clause-ok : goal.returns-in-Ok-clause-ok
returns-in-Ok-clause-ok g c =
    let steps = c.args.question.now.steps in
    subst (λ (n : List ℕ). SearchesOf g.D.Disk n steps c.in-Ok.paths c.args.store.now c.find.new.self c.args.gathered.now c.args.disk.now c.find.new.disk) c.as_slice-name.ensures
    (searches_found g.D.Disk c.args.store.now c.find.new.self c.args.gathered.now c.as_slice-name.result.now steps c.args.disk.now c.find.new.disk c.in-Ok.paths c.in-Some.names.now c.in-Some.ensures
    c.find.ensures.still c.in-Ok.ensures.holds c.find.ensures.reads c.in-Ok.ensures.ok)

pub returns-in-Err-clause-err : goal.returns-in-Err-clause-err
returns-in-Err-clause-err g c =
    let steps = c.args.question.now.steps in
    subst (λ (n : List ℕ). StopsSearching g.D.Disk n steps c.status_of.result c.args.store.now c.args.gathered.now c.args.disk.now c.find.new.disk) c.as_slice-name.ensures
    (subst (λ (s : Status). StopsSearching g.D.Disk c.as_slice-name.result.now steps s c.args.store.now c.args.gathered.now c.args.disk.now c.find.new.disk) (sym c.status_of.ensures)
    (searches_stopped g.D.Disk c.args.store.now c.find.new.self c.args.gathered.now c.as_slice-name.result.now steps c.args.disk.now c.find.new.disk c.in-Err.error c.in-Some.names.now c.in-Some.ensures
    c.in-Err.ensures.refused c.find.ensures.reads))

pub returns-in-None-clause-ok : goal.returns-in-None-clause-ok
returns-in-None-clause-ok g c =
    let steps = c.args.question.now.steps in
    subst (λ (n : List ℕ). SearchesOf g.D.Disk n steps None c.args.store.now c.args.store.now c.args.gathered.now c.args.disk.now c.args.disk.now) c.as_slice-name.ensures
    (searches_absent c.as_slice-name.result.now steps c.in-None.ensures)
