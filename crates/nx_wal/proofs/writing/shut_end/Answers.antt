use Rattle.nx_replay.proofs.SettledLemmas.{on_ok}
use Rattle.nx_wal.proofs.WritingLemmas.{end_fits, prefix_written, told_once}
use Rattle.std.proofs.Common.{[], ◌∷◌, ap, sym, take}
use Rattle.nx_host.specs.Disk.{Image}
use Rattle.nx_replay.proofs.CommitMoments.{shut_goes, shut_done}
use Rattle.nx_wal.proofs.OwnLemmas.{torn_long}
use Rattle.nx_wal.proofs.writing.shut_end.Goals as goal

pub returns-clause-goes : goal.returns-clause-goes
returns-clause-goes g c = shut_goes c.args.end c.args.shut c.if-shut.false c.write_gate.ensures.goes

pub returns-clause-ok : goal.returns-clause-ok
returns-clause-ok g c = on_ok c.write_gate.result c.write_gate.ensures.written (λ written was now opened told.
    let done = written was opened.settled (end_fits c.args.end c.args.shut was.log opened.at) now told in
    shut_done c.args.end c.args.shut c.if-shut.false opened done.0 done.1)

pub returns-then-shut-clause-prefix : goal.returns-then-shut-clause-prefix
returns-then-shut-clause-prefix g c was now opened told = ap (λ (i : Image). take c.args.end i.log) (sym (told_once g.D.Disk c.args.disk.now was now opened.settled told))

pub returns-clause-prefix : goal.returns-clause-prefix
returns-clause-prefix g c = on_ok c.write_gate.result c.write_gate.ensures.written (λ written was now opened told.
    let fits = end_fits c.args.end c.args.shut was.log opened.at in
    let done = written was opened.settled fits now told in
    prefix_written c.args.end (0 ∷ []) was now fits done.0)

pub returns-clause-longer : goal.returns-clause-longer
returns-clause-longer g c = torn_long c.write_gate.ensures.goes
