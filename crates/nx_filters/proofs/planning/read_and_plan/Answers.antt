use Rattle.std.proofs.lemmas.Result.{err_from_is_err_and}
use Rattle.nx_filters.proofs.PlanLemmas.{document_stops, plan_read, plan_stops}
use Rattle.nx_filters.proofs.planning.read_and_plan.Goals as goal

pub returns-in_err-tree-clause-reads : goal.returns-in_err-tree-clause-reads
returns-in_err-tree-clause-reads g c =
    let p = err_from_is_err_and c.from_residual.result c.from_residual.ensures.1 in
    rw (p.1, p.2) (document_stops c.args.k c.in_err-tree.field-0.0 (g.H.Disk.beside c.args.host.now) (g.H.Disk.beside c.read.new.host) c.in_err-tree.ensures.reads)

pub plan-requires-clause-document : goal.plan-requires-clause-document
plan-requires-clause-document g c = let (taken, whole, reads) = c.in_ok-tree.ensures.reads in reads.document

pub returns-in_err-plan-clause-reads : goal.returns-in_err-plan-clause-reads
returns-in_err-plan-clause-reads g c =
    let p = err_from_is_err_and c.from_residual-in_err-plan.result c.from_residual-in_err-plan.ensures.1 in
    rw (p.1, p.2)
    (plan_stops c.args.k c.in_ok-tree.tree c.in_err-plan.field-0.0 (g.H.Disk.beside c.args.host.now) (g.H.Disk.beside c.read.new.host) c.in_ok-tree.ensures.reads c.in_err-plan.ensures.err)

pub returns-clause-reads : goal.returns-clause-reads
returns-clause-reads g c =
    plan_read c.args.k c.in_ok-tree.tree c.in_ok-plan.field-0 (g.H.Disk.beside c.args.host.now) (g.H.Disk.beside c.read.new.host) c.in_ok-tree.ensures.reads c.in_ok-plan.ensures.ok
