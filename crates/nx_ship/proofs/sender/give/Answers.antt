use Rattle.std.proofs.Common.{[], subst, ◌≡◌, List, ℕ, sym}
use Rattle.nx_host.specs.Host.{Appends}
use Rattle.nx_ship.specs.Sending.{Sends}
use Rattle.nx_ship.specs.Sent.{SendsMore}
use Rattle.nx_ship.proofs.SendLemmas.{emit_sends, gives_block, gives_some, any_err}
use Rattle.nx_ship.proofs.sender.give.Goals as goal

pub returns-in_err-emit-clause-err : goal.returns-in_err-emit-clause-err
returns-in_err-emit-clause-err g c =
    let d = g.H.Disk in
    let e = c.emit.ensures in
    let sends : Sends d c.deref.result.now c.args.host.now c.emit.new.self = emit_sends {bytes = c.deref.result.now} e.contents e.images e.input e.in_faults e.out_faults e.faults e.time in
    any_err c.from_residual.result (gives_some c.args.block.now.items (subst (λ (l : List ℕ). Sends d l c.args.host.now c.emit.new.self) c.deref.ensures.value sends))

pub returns-clause-ok : goal.returns-clause-ok
returns-clause-ok g c =
    let d = g.H.Disk in
    let e = c.emit.ensures in
    let sends : Sends d c.deref.result.now c.args.host.now c.emit.new.self = emit_sends {bytes = c.deref.result.now} e.contents e.images e.input e.in_faults e.out_faults e.faults e.time in
    let none : c.clear.new.self.items ≡ [] = c.clear.ensures.items in (
      subst (λ (l : List ℕ). SendsMore d [] c.args.block.now.items l c.args.host.now c.emit.new.self) (sym none)
          (gives_block c.args.block.now.items
          (subst (λ (l : List ℕ). Appends l (d.beside c.args.host.now).output (d.beside c.emit.new.self).output) c.deref.ensures.value c.in_ok-emit.ensures.ok)
          (subst (λ (l : List ℕ). Sends d l c.args.host.now c.emit.new.self) c.deref.ensures.value sends)),
      none,
    )
