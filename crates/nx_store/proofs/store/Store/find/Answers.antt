use Rattle.std.proofs.Common.{sym, ◌∙◌, refl}
use Rattle.nx_store.specs.Store.{LeavesStore}
use Rattle.nx_store.specs.declared.store.Store.{Store}
use Rattle.nx_store.proofs.FoundLemmas.{at_none}
use Rattle.nx_store.proofs.NamingLemmas.{found_at, finding_read_at, absent_finding_read, ended_finding_read, none_of_these, finding_refused, search_same, LacksMapped}
use Rattle.nx_store.proofs.ReadLemmas.{looked_holds, unasked_holds}
use Rattle.nx_store.proofs.store.Store.find.Goals as goal

pub returns-then-is_ended-clause-reads : goal.returns-then-is_ended-clause-reads
returns-then-is_ended-clause-reads g c = ended_finding_read c.args.name.now c.args.names.now c.args.steps.now (sym c.is_ended.ensures ∙ c.if-is_ended.true)

pub returns-in_default-clause-ok : goal.returns-in_default-clause-ok
returns-in_default-clause-ok g c = λ state at are. at_none c.args.name.now at (sym c.in_default.ensures)

pub returns-in_default-clause-holds : goal.returns-in_default-clause-holds
returns-in_default-clause-holds g c = unasked_holds g.D.Disk c.args.self.now c.args.disk.now

pub returns-in_default-clause-reads : goal.returns-in_default-clause-reads
returns-in_default-clause-reads g c = absent_finding_read c.args.name.now c.args.names.now c.args.steps.now (sym c.in_default.ensures)

pub returns-in-Ok-clause-ok : goal.returns-in-Ok-clause-ok
returns-in-Ok-clause-ok g c =
    λ state at are. found_at c.args.name.now c.in-Some.entry at (sym c.in-Some.ensures) c.args.names.now c.args.steps.now c.in-Ok.paths are (c.in-Ok.ensures.ok).2

pub returns-in-Ok-clause-holds : goal.returns-in-Ok-clause-holds
returns-in-Ok-clause-holds g c =
    let after : Store = record c.args.self.now { records = c.find-2.new.records } in
    let left : LeavesStore c.args.self.now after = record { records = (c.in-Ok.ensures.ok).1; catalog = refl } in
    looked_holds g.D.Disk c.args.self.now after c.args.disk.now c.find-2.new.disk left c.find-2.ensures.still

pub returns-in-Ok-clause-reads : goal.returns-in-Ok-clause-reads
returns-in-Ok-clause-reads g c =
    λ state at are. finding_read_at c.args.name.now c.in-Some.entry at (sym c.in-Some.ensures) c.args.names.now c.args.steps.now (g.D.Disk.reads c.args.disk.now) (g.D.Disk.reads c.find-2.new.disk) are
    c.find-2.ensures.reads

pub returns-in-Err-clause-reads : goal.returns-in-Err-clause-reads
returns-in-Err-clause-reads g c =
    λ state at are. finding_read_at c.args.name.now c.in-Some.entry at (sym c.in-Some.ensures) c.args.names.now c.args.steps.now (g.D.Disk.reads c.args.disk.now) (g.D.Disk.reads c.find-2.new.disk) are
    c.find-2.ensures.reads

pub returns-in-Err-clause-refused : goal.returns-in-Err-clause-refused
returns-in-Err-clause-refused g c =
    let after : Store = record c.args.self.now { records = c.find-2.new.records } in
    rw c.told_find.ensures
    (finding_refused g.D.Disk c.args.self.now after c.args.disk.now c.find-2.new.disk (LacksMapped g.D.Disk c.args.self.now c.args.disk.now c.in-Some.entry c.args.names.now) c.args.name.now c.args.names.now c.in-Err.error
    (λ lacks state at are. none_of_these c.args.name.now c.in-Some.entry at (sym c.in-Some.ensures) c.args.names.now are lacks) refl c.in-Err.ensures.refused)

pub returns-in_default-clause-goes : goal.returns-in_default-clause-goes
returns-in_default-clause-goes g c = let runs = sym c.is_ended.ensures ∙ c.if-is_ended.false in (runs, runs)

pub returns-in-Ok-clause-goes : goal.returns-in-Ok-clause-goes
returns-in-Ok-clause-goes g c = let ok = c.in-Ok.ensures.ok in (ok.0, (ok.1).ended_stays ∙ ok.0)

pub returns-in-Ok-clause-same : goal.returns-in-Ok-clause-same
returns-in-Ok-clause-same g c runs = record { records = (c.in-Ok.ensures.ok).1; catalog = refl }

pub returns-in-Err-clause-same : goal.returns-in-Err-clause-same
returns-in-Err-clause-same g c =
    let after : Store = record c.args.self.now { records = c.find-2.new.records } in
    search_same g.D.Disk c.args.self.now after c.args.disk.now c.find-2.new.disk (LacksMapped g.D.Disk c.args.self.now c.args.disk.now c.in-Some.entry c.args.names.now) c.in-Err.error refl c.in-Err.ensures.refused
