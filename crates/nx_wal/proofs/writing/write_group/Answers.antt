use Rattle.nx_replay.proofs.SettledLemmas.{on_ok}
use Rattle.nx_replay.proofs.CommitMoments.{one_step, two_steps, three_steps, steps_done}
use Rattle.nx_wal.specs.Writing.{body_of}
use Rattle.nx_wal.proofs.WritingLemmas.{group_stands}
use Rattle.nx_wal.proofs.OwnLemmas.{long_one, long_two, long_three}
use Rattle.nx_wal.proofs.writing.write_group.Goals as goal

pub returns-in_err-shut_end-clause-goes : goal.returns-in_err-shut_end-clause-goes
returns-in_err-shut_end-clause-goes g c = one_step c.args.end c.args.shut (body_of c.args.number c.args.waiting.now.entries) c.shut_end.ensures.goes

pub returns-in_err-lay_waiting-clause-goes : goal.returns-in_err-lay_waiting-clause-goes
returns-in_err-lay_waiting-clause-goes g c =
    two_steps c.args.end c.args.shut (body_of c.args.number c.args.waiting.now.entries) c.shut_end.ensures.goes c.in_ok-shut_end.ensures.ok c.lay_waiting.ensures.goes

pub returns-clause-goes : goal.returns-clause-goes
returns-clause-goes g c =
    three_steps c.args.end c.args.shut (body_of c.args.number c.args.waiting.now.entries) c.shut_end.ensures.goes c.in_ok-shut_end.ensures.ok
    c.lay_waiting.ensures.goes c.in_ok-lay_waiting.ensures.ok c.open_gate.ensures.goes

pub returns-clause-ok : goal.returns-clause-ok
returns-clause-ok g c = on_ok c.open_gate.result c.open_gate.ensures.ok (λ opens.
    steps_done c.args.end c.args.shut (body_of c.args.number c.args.waiting.now.entries) c.in_ok-shut_end.ensures.ok (c.lay_waiting.ensures.goes).told
    c.in_ok-lay_waiting.ensures.ok (c.open_gate.ensures.goes).told opens)

pub returns-clause-prefix : goal.returns-clause-prefix
returns-clause-prefix g c = on_ok c.open_gate.result c.open_gate.ensures.prefix (λ rest.
    group_stands c.args.end c.args.shut (body_of c.args.number c.args.waiting.now.entries) (c.in_ok-shut_end.ensures.ok, c.in_ok-shut_end.ensures.prefix) (c.lay_waiting.ensures.goes).told
    (c.in_ok-lay_waiting.ensures.ok, c.in_ok-lay_waiting.ensures.prefix) (c.open_gate.ensures.goes).told rest)

pub returns-in_err-shut_end-clause-longer : goal.returns-in_err-shut_end-clause-longer
returns-in_err-shut_end-clause-longer g c =
    let laws = g.met.D.Disk in
    long_one laws.contents_may_stay laws.stands_now laws.only_now c.args.end c.args.shut (body_of c.args.number c.args.waiting.now.entries) c.shut_end.ensures.longer

pub returns-in_err-lay_waiting-clause-longer : goal.returns-in_err-lay_waiting-clause-longer
returns-in_err-lay_waiting-clause-longer g c =
    let laws = g.met.D.Disk in
    long_two laws.contents_may_stay laws.stands_now laws.only_now c.args.end c.args.shut (body_of c.args.number c.args.waiting.now.entries) c.shut_end.ensures.longer c.in_ok-shut_end.ensures.ok
    c.lay_waiting.ensures.longer

pub returns-clause-longer : goal.returns-clause-longer
returns-clause-longer g c =
    let laws = g.met.D.Disk in
    long_three laws.contents_may_stay laws.stands_now laws.only_now c.args.end c.args.shut (body_of c.args.number c.args.waiting.now.entries) c.shut_end.ensures.longer c.in_ok-shut_end.ensures.ok
    c.lay_waiting.ensures.longer c.in_ok-lay_waiting.ensures.ok c.open_gate.ensures.longer
