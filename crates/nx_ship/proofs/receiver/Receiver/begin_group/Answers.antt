use Rattle.std.proofs.Common.{List, length, refl, sym, ap, subst, arith}
use Rattle.nx_replay.specs.Log.{Entry}
use Rattle.nx_ship.specs.Sent.{IsCutShort}
use Rattle.nx_ship.specs.Receiving.{IsTakeFault}
use Rattle.nx_ship.specs.declared.error.ShipError.{ShipError}
use Rattle.nx_ship.proofs.SendLemmas.{log_cut}
use Rattle.nx_wal.specs.Wal.{pending}
use Rattle.nx_ship.proofs.ReceivingLemmas.{leaves_none, writes_leaves}
use Rattle.nx_ship.proofs.TakingLemmas.{applies_none}
use Rattle.nx_ship.proofs.CallLemmas.{begins_on, begins_short, begins_moved, moves_none, some_waits, log_fault, none_waits}
use Rattle.nx_ship.proofs.receiver.Receiver.begin_group.Goals as goal

pub invariant_of-self-2 : goal.invariant_of-self-2
invariant_of-self-2 g c =
    let none = none_waits g.D.Disk c.abandon.new.self c.checkpoint.new.self c.args.disk.now c.checkpoint.new.disk c.checkpoint.result c.abandon.ensures.none_left c.checkpoint.ensures.empty c.checkpoint.ensures.refused in
    let empty = ap (λ (es : List Entry). length es) none in
    record { room = λ some. absurd (omega (arith, some, empty)) }

pub returns-in-Some-clause-ok : goal.returns-in-Some-clause-ok
returns-in-Some-clause-ok g c = begins_on {d = g.D.Disk} (some_waits (pending c.args.self.now.wal) c.in-Some.field-0 (λ bytes. bytes.now.bytes) c.in-Some.ensures)

pub returns-in-Some-clause-room : goal.returns-in-Some-clause-room
returns-in-Some-clause-room g c = c.args.self.now.room (some_waits (pending c.args.self.now.wal) c.in-Some.field-0 (λ bytes. bytes.now.bytes) c.in-Some.ensures)

pub returns-in-Some-clause-moves : goal.returns-in-Some-clause-moves
returns-in-Some-clause-moves g c = applies_none c.args.self.now c.args.disk.now

pub returns-in-Some-clause-leaves : goal.returns-in-Some-clause-leaves
returns-in-Some-clause-leaves g c = leaves_none c.args.disk.now

pub returns-then-log_length-le-LONG_LOG-clause-ok : goal.returns-then-log_length-le-LONG_LOG-clause-ok
returns-then-log_length-le-LONG_LOG-clause-ok g c =
    begins_short {d = g.D.Disk} {old = c.args.self.now} (record { reader = refl; last = refl; offset = refl }) c.abandon.ensures.follows c.abandon.ensures.none_left (sym c.in-None.ensures)
    (let value = c.log_length.ensures in omega (arith, value, c.if-log_length-le-LONG_LOG.true))

pub returns-then-log_length-le-LONG_LOG-clause-moves : goal.returns-then-log_length-le-LONG_LOG-clause-moves
returns-then-log_length-le-LONG_LOG-clause-moves g c = applies_none c.args.self.now c.args.disk.now

pub returns-then-log_length-le-LONG_LOG-clause-leaves : goal.returns-then-log_length-le-LONG_LOG-clause-leaves
returns-then-log_length-le-LONG_LOG-clause-leaves g c = leaves_none c.args.disk.now

pub returns-in-Ok-clause-moves : goal.returns-in-Ok-clause-moves
returns-in-Ok-clause-moves g c = moves_none {d = g.D.Disk} {old = c.args.self.now} c.abandon.ensures.follows c.checkpoint.ensures.goes

pub returns-in-Ok-clause-leaves : goal.returns-in-Ok-clause-leaves
returns-in-Ok-clause-leaves g c = writes_leaves c.checkpoint.ensures.goes

pub returns-in-Err-clause-moves : goal.returns-in-Err-clause-moves
returns-in-Err-clause-moves g c = moves_none {d = g.D.Disk} {old = c.args.self.now} c.abandon.ensures.follows c.checkpoint.ensures.goes

pub returns-in-Err-clause-leaves : goal.returns-in-Err-clause-leaves
returns-in-Err-clause-leaves g c = writes_leaves c.checkpoint.ensures.goes

pub returns-in-Err-clause-cut : goal.returns-in-Err-clause-cut
returns-in-Err-clause-cut g c = subst (λ (e : ShipError). IsCutShort e) (sym c.error_of.ensures) (log_cut c.in-Err.error)

pub returns-in-Err-clause-cause : goal.returns-in-Err-clause-cause
returns-in-Err-clause-cause g c =
    subst (λ (e : ShipError). IsTakeFault g.D.Disk e c.args.disk.now c.checkpoint.new.disk) (sym c.error_of.ensures) (log_fault g.D.Disk c.abandon.new.self c.checkpoint.new.self c.args.disk.now c.checkpoint.new.disk c.in-Err.error c.in-Err.ensures.refused)

pub returns-in-Ok-clause-ok : goal.returns-in-Ok-clause-ok
returns-in-Ok-clause-ok g c =
    begins_moved {d = g.D.Disk} {old = c.args.self.now} (record { reader = refl; last = refl; offset = refl }) c.abandon.ensures.follows (sym c.in-None.ensures)
    (c.in-Ok.ensures.empty).1 (let value = c.log_length.ensures in omega (arith, value, c.if-log_length-le-LONG_LOG.false)) c.checkpoint.ensures.goes (λ was now step is. let done = c.in-Ok.ensures.ok was now step is in (done.0, done.1, done.2))
