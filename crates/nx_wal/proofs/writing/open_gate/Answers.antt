use Rattle.nx_replay.proofs.SettledLemmas.{on_ok}
use Rattle.nx_wal.proofs.WritingLemmas.{end_fits, prefix_written, behind_written}
use Rattle.std.proofs.Common.{[], ◌∷◌}
use Rattle.std.proofs.Common.{true}
use Rattle.nx_replay.proofs.CommitMoments.{opened_goes, opened_done}
use Rattle.nx_wal.proofs.OwnLemmas.{torn_long}
use Rattle.nx_wal.proofs.writing.open_gate.Goals as goal

pub returns-clause-goes : goal.returns-clause-goes
returns-clause-goes g c = opened_goes c.args.end c.write_gate.ensures.goes

pub returns-clause-ok : goal.returns-clause-ok
returns-clause-ok g c = on_ok c.write_gate.result c.write_gate.ensures.written (λ written was now group laid told.
    let done = written was ((laid.opened).settled) (end_fits c.args.end true was.log ((laid.opened).at)) now told in
    opened_done c.args.end group laid done.0 done.1)

pub returns-clause-prefix : goal.returns-clause-prefix
returns-clause-prefix g c = on_ok c.write_gate.result c.write_gate.ensures.written (λ written was now group laid told.
    let fits = end_fits c.args.end true was.log ((laid.opened).at) in
    let done = written was ((laid.opened).settled) fits now told in
    (prefix_written c.args.end (1 ∷ []) was now fits done.0, behind_written c.args.end 1 was now done.0))

pub returns-clause-longer : goal.returns-clause-longer
returns-clause-longer g c = torn_long c.write_gate.ensures.goes
