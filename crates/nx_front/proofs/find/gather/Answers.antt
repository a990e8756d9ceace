use Rattle.std.proofs.Common.{Option, sym, subst}
use Rattle.std.proofs.lemmas.Result.{err_from_is_err_and}
use Rattle.nx_find.specs.declared.names.Names.{Names}
use Rattle.nx_store.specs.Naming.{AreNamesOf}
use Rattle.nx_filters.specs.declared.status.Status.{Status}
use Rattle.nx_front.specs.Searching.{StopsGathering}
use Rattle.nx_front.proofs.SearchingLemmas.{gathers_names, gathers_none, gathers_unkept, gathers_stopped}
use Rattle.nx_front.proofs.find.gather.Goals as goal

pub returns-in_err-keep-in-Ok-Some-clause-err : goal.returns-in_err-keep-in-Ok-Some-clause-err
returns-in_err-keep-in-Ok-Some-clause-err g c =
    let p = err_from_is_err_and c.from_residual.result c.from_residual.ensures.1 in
    rw (p.1, p.2) (gathers_unkept g.D.Disk c.args.store.now c.names_of.new.self c.args.name.now c.args.disk.now c.names_of.new.disk c.args.gathered.now c.names_of.ensures.reads)

pub returns-in_ok-keep-in-Ok-Some-clause-ok : goal.returns-in_ok-keep-in-Ok-Some-clause-ok
returns-in_ok-keep-in-Ok-Some-clause-ok g c =
    gathers_names g.D.Disk c.args.store.now c.names_of.new.self c.args.name.now c.args.disk.now c.names_of.new.disk c.args.gathered.now c.keep.new.self c.in-Ok-Some.names c.names_of.ensures.still
    c.in-Ok-Some.ensures.holds c.names_of.ensures.reads
    (λ state at. subst (λ (o : Option Names). AreNamesOf at.held state c.args.name.now o) c.in-Ok-Some.field-0-is (c.in-Ok-Some.ensures.ok state at)) c.in_ok-keep-in-Ok-Some.ensures

pub returns-in-Ok-None-clause-ok : goal.returns-in-Ok-None-clause-ok
returns-in-Ok-None-clause-ok g c =
    gathers_none g.D.Disk c.args.store.now c.names_of.new.self c.args.name.now c.args.disk.now c.names_of.new.disk c.args.gathered.now c.names_of.ensures.still c.in-Ok-None.ensures.holds
    c.names_of.ensures.reads (λ state at. subst (λ (o : Option Names). AreNamesOf at.held state c.args.name.now o) c.in-Ok-None.field-0-is (c.in-Ok-None.ensures.ok state at))

pub returns-in-Err-clause-err : goal.returns-in-Err-clause-err
returns-in-Err-clause-err g c =
    subst (λ (s : Status). StopsGathering g.D.Disk c.args.name.now s c.args.store.now c.args.gathered.now c.args.disk.now c.names_of.new.disk) (sym c.status_of.ensures)
    (gathers_stopped g.D.Disk c.args.store.now c.names_of.new.self c.args.name.now c.args.disk.now c.names_of.new.disk c.args.gathered.now c.in-Err.error c.names_of.ensures.still
    c.in-Err.ensures.refused c.names_of.ensures.reads)
