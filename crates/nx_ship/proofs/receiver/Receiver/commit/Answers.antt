use Rattle.std.proofs.Common.{◌≡◌, List, ℕ, refl, sym, subst, ◌∙◌}
use Rattle.std.proofs.lemmas.Result.{err_from_is_err_and}
use Rattle.nx_host.specs.Host.{Appends}
use Rattle.nx_ship.specs.Applying.{line_for}
use Rattle.nx_ship.specs.Sending.{Sends}
use Rattle.nx_ship.specs.Sent.{IsCutShort}
use Rattle.nx_ship.specs.Receiving.{IsTakeFault}
use Rattle.nx_ship.specs.declared.error.ShipError.{ShipError}
use Rattle.nx_ship.specs.declared.error.ShipError.TheVariants as error
use Rattle.nx_ship.proofs.SendLemmas.{log_cut, emit_sends, any_err}
use Rattle.nx_ship.proofs.ReceivingLemmas.{leaves_none, leaves_then, writes_leaves}
use Rattle.nx_ship.proofs.CallLemmas.{commit_unbegun, commit_failed, commit_ungiven, commit_given, log_fault, fault_later, sends_leaves}
use Rattle.nx_ship.proofs.receiver.Receiver.commit.Goals as goal

pub returns-in_err-line-clause-err : goal.returns-in_err-line-clause-err
returns-in_err-line-clause-err g c = any_err c.from_residual.result (commit_unbegun {d = g.H.Disk} {old = c.args.self.now} {a = c.args.host.now})

pub returns-in_err-line-clause-leaves : goal.returns-in_err-line-clause-leaves
returns-in_err-line-clause-leaves g c = leaves_none c.args.host.now

pub returns-in-Err-clause-err : goal.returns-in-Err-clause-err
returns-in-Err-clause-err g c = commit_failed {d = g.H.Disk} {old = c.args.self.now} c.commit.ensures.goes

pub returns-in-Err-clause-leaves : goal.returns-in-Err-clause-leaves
returns-in-Err-clause-leaves g c = writes_leaves c.commit.ensures.goes

pub returns-in-Err-clause-cut : goal.returns-in-Err-clause-cut
returns-in-Err-clause-cut g c = subst (λ (e : ShipError). IsCutShort e) (sym c.error_of.ensures) (log_cut c.in-Err.error)

pub returns-in-Err-clause-cause : goal.returns-in-Err-clause-cause
returns-in-Err-clause-cause g c =
    subst (λ (e : ShipError). IsTakeFault g.H.Disk e c.args.host.now c.commit.new.disk) (sym c.error_of.ensures) (log_fault g.H.Disk c.args.self.now.wal c.commit.new.self c.args.host.now c.commit.new.disk c.in-Err.error c.in-Err.ensures.refused)

pub returns-in_err-emit-clause-err : goal.returns-in_err-emit-clause-err
returns-in_err-emit-clause-err g c =
    let d = g.H.Disk in
    let e = c.emit.ensures in
    let bytes : c.as_bytes.result.now ≡ line_for c.args.self.now.reader.number = c.as_bytes.ensures.value ∙ c.in_ok-line.ensures in
    let sends : Sends d c.as_bytes.result.now c.commit.new.disk c.emit.new.self = emit_sends {bytes = c.as_bytes.result.now} e.contents e.images e.input e.in_faults e.out_faults e.faults e.time in
    any_err c.from_residual-in_err-emit.result
    (commit_ungiven {d = d} {old = c.args.self.now} c.commit.ensures.goes c.in-Ok.ensures.ok (subst (λ (l : List ℕ). Sends d l c.commit.new.disk c.emit.new.self) bytes sends))

pub returns-in_err-emit-clause-leaves : goal.returns-in_err-emit-clause-leaves
returns-in_err-emit-clause-leaves g c =
    let d = g.H.Disk in
    let e = c.emit.ensures in
    let sends : Sends d c.as_bytes.result.now c.commit.new.disk c.emit.new.self = emit_sends {bytes = c.as_bytes.result.now} e.contents e.images e.input e.in_faults e.out_faults e.faults e.time in
    leaves_then (writes_leaves c.commit.ensures.goes) (sends_leaves sends)

pub returns-in_err-emit-clause-cause : goal.returns-in_err-emit-clause-cause
returns-in_err-emit-clause-cause g c =
    let p = err_from_is_err_and c.from_residual-in_err-emit.result c.from_residual-in_err-emit.ensures.1 in
    rw (p.1, p.2) (fault_later g.H.Disk c.args.host.now c.commit.new.disk c.emit.new.self error.Write (writes_leaves c.commit.ensures.goes) c.in_err-emit.ensures.cause)

pub returns-clause-ok : goal.returns-clause-ok
returns-clause-ok g c =
    let d = g.H.Disk in
    let e = c.emit.ensures in
    let bytes : c.as_bytes.result.now ≡ line_for c.args.self.now.reader.number = c.as_bytes.ensures.value ∙ c.in_ok-line.ensures in
    let sends : Sends d c.as_bytes.result.now c.commit.new.disk c.emit.new.self = emit_sends {bytes = c.as_bytes.result.now} e.contents e.images e.input e.in_faults e.out_faults e.faults e.time in
    commit_given {d = d} {old = c.args.self.now} refl (c.in-Ok.ensures.none_left).0 c.commit.ensures.goes c.in-Ok.ensures.ok
    (subst (λ (l : List ℕ). Appends l (d.beside c.commit.new.disk).output (d.beside c.emit.new.self).output) bytes c.in_ok-emit.ensures.ok)
    (subst (λ (l : List ℕ). Sends d l c.commit.new.disk c.emit.new.self) bytes sends)

pub returns-clause-leaves : goal.returns-clause-leaves
returns-clause-leaves g c =
    let d = g.H.Disk in
    let e = c.emit.ensures in
    let sends : Sends d c.as_bytes.result.now c.commit.new.disk c.emit.new.self = emit_sends {bytes = c.as_bytes.result.now} e.contents e.images e.input e.in_faults e.out_faults e.faults e.time in
    leaves_then (writes_leaves c.commit.ensures.goes) (sends_leaves sends)
