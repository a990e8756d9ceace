use Rattle.std.proofs.Common.{◌≡◌, ◌≤◌, ◌+◌, arith}
use Rattle.std.proofs.lemmas.Result.{err_from_is_err_and}
use Rattle.nx_host.specs.Disk.{Image}
use Rattle.nx_replay.specs.Log.{replay, HasMark}
use Rattle.nx_wal.specs.Wal.{IsInStep}
use Rattle.nx_rules.specs.Listed.{HasHeaderPage}
use Rattle.nx_check.specs.declared.error.Stop.{Stop}
use Rattle.nx_check.specs.On.{IsOn, StopsWalk}
use Rattle.nx_check.proofs.ComeLemmas.{err_passed}
use Rattle.nx_check.proofs.BetweenLemmas.{stops_on, begun}
use Rattle.nx_check.proofs.checking.begin_check.Goals as goal

pub returns-in_err-head-clause-refused : goal.returns-in_err-head-clause-refused
returns-in_err-head-clause-refused g c =
    let Was : Image → Type 0 = λ was. IsInStep g.D.Disk c.args.wal c.args.disk.now was × HasMark (replay was) in
    err_passed c.from_residual-in_err-head.result (λ (e : Stop). StopsWalk g.D.Disk c.args.disk.now c.walk_header.new.disk Was e) c.in_err-head.field-0.0
    (err_from_is_err_and c.from_residual-in_err-head.result c.from_residual-in_err-head.ensures.1)
    (stops_on g.D.Disk c.args.disk.now c.begin_walk.new.disk c.walk_header.new.disk (λ was. IsOn g.D.Disk c.in_ok-walk.walk c.begin_walk.new.disk was × HasMark (replay was)) Was c.in_err-head.field-0.0 c.begin_walk.ensures.still.faults_later
    (λ was h. (c.in_ok-walk.ensures.ok.1 was h.0, h.1)) c.in_err-head.ensures.refused)

pub returns-in_err-walk_free-clause-refused : goal.returns-in_err-walk_free-clause-refused
returns-in_err-walk_free-clause-refused g c =
    let Was : Image → Type 0 = λ was. IsInStep g.D.Disk c.args.wal c.args.disk.now was × HasMark (replay was) in
    let first : g.D.Disk.faults c.args.disk.now ≤ g.D.Disk.faults c.begin_walk.new.disk = c.begin_walk.ensures.still.faults_later in
    let second : g.D.Disk.faults c.begin_walk.new.disk ≤ g.D.Disk.faults c.walk_header.new.disk = c.walk_header.ensures.still.faults_later in
    err_passed c.from_residual-in_err-walk_free.result (λ (e : Stop). StopsWalk g.D.Disk c.args.disk.now c.walk_free.new.disk Was e) c.in_err-walk_free.field-0.0
    (err_from_is_err_and c.from_residual-in_err-walk_free.result c.from_residual-in_err-walk_free.ensures.1)
    (stops_on g.D.Disk c.args.disk.now c.walk_header.new.disk c.walk_free.new.disk (λ was. IsOn g.D.Disk c.walk_header.new.walk c.walk_header.new.disk was × HasHeaderPage (replay was) c.in_ok-head.head) Was c.in_err-walk_free.field-0.0
    (omega (arith, first, second)) (λ was h. c.in_ok-head.ensures.ok was (c.in_ok-walk.ensures.ok.1 was h.0)) c.in_err-walk_free.ensures.refused)

pub returns-clause-ok : goal.returns-clause-ok
returns-clause-ok g c = λ was step.
    let on = c.in_ok-walk.ensures.ok.1 was step in
    let header = c.in_ok-head.ensures.ok was on in
    let free = c.in_ok-walk_free.ensures.ok was header.0 in
    let none : g.D.Disk.reads c.begin_walk.new.disk ≡ g.D.Disk.reads c.args.disk.now = c.begin_walk.ensures.reads in
    let two : g.D.Disk.reads c.walk_header.new.disk ≤ g.D.Disk.reads c.begin_walk.new.disk + 2 = c.walk_header.ensures.reads in
    begun g.D.Disk c.walk_free.new.walk c.args.disk.now c.walk_header.new.disk c.walk_free.new.disk was c.in_ok-head.head free.1.0 free.0 header.1 free.1.1 free.1.2 (omega (arith, none, two)) free.1.3
