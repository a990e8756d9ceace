use Rattle.std.proofs.Common.{Err}
use Rattle.std.proofs.lemmas.Result.{err_from_is_err_and}
use Rattle.nx_filters.proofs.VerifyLemmas.{text_short, judged_reads}
use Rattle.nx_filters.proofs.verifying.read_verdict.Goals as goal

pub judge-requires-clause-few : goal.judge-requires-clause-few
judge-requires-clause-few g c =
    let (taken, whole, planned) = c.in_ok-planned.ensures.ok in text_short c.in_ok-planned.planned.tree c.in_ok-planned.planned.plan taken whole.few planned

pub returns-in_err-judge-clause-reads : goal.returns-in_err-judge-clause-reads
returns-in_err-judge-clause-reads g c =
    let (taken, whole, planned) = c.in_ok-planned.ensures.ok in
    let p = err_from_is_err_and c.from_residual-in_err-judge.result c.from_residual-in_err-judge.ensures.1 in
    rw (p.1, p.2)
    (judged_reads c.args.k (Err c.in_err-judge.field-0.0) (g.H.Disk.beside c.args.host.now)
    (g.H.Disk.beside c.read_planned.new.host) whole planned c.in_err-judge.ensures)
