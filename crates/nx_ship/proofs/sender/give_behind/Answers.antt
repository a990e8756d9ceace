use Rattle.std.proofs.Common.{[], List, ℕ, sym, subst}
use Rattle.std.proofs.lemmas.Result.{err_from_is_err_and}
use Rattle.nx_ship.specs.Sending.{Sends}
use Rattle.nx_ship.specs.Sent.{SendsMore}
use Rattle.nx_ship.specs.declared.error.ShipError.TheVariants.{Write}
use Rattle.nx_ship.proofs.SendLemmas.{emit_sends, fault_since, more_now, some_more, any_err}
use Rattle.nx_ship.proofs.PartLemmas.{bytes_behind, bytes_cut}
use Rattle.nx_ship.proofs.sender.give_behind.Goals as goal

pub returns-in_err-give_some-clause-err : goal.returns-in_err-give_some-clause-err
returns-in_err-give_some-clause-err g c = any_err c.from_residual.result (some_more [] c.args.bytes.now c.in_err-give_some.ensures.err)

pub returns-in_err-emit-clause-err : goal.returns-in_err-emit-clause-err
returns-in_err-emit-clause-err g c =
    let d = g.H.Disk in
    let gave = c.in_ok-give_some.ensures.ok in
    let e = c.emit.ensures in
    let sends : Sends d c.args.bytes.now c.give_some.new.host c.emit.new.self = emit_sends {bytes = c.args.bytes.now} e.contents e.images e.input e.in_faults e.out_faults e.faults e.time in
    any_err c.from_residual-in_err-emit.result
    (bytes_cut c.args.bytes.now (subst (λ (l : List ℕ). SendsMore d [] c.args.block.now.items l c.args.host.now c.give_some.new.host) gave.1 gave.0) sends)

pub returns-in_err-emit-clause-cause : goal.returns-in_err-emit-clause-cause
returns-in_err-emit-clause-cause g c =
    let p = err_from_is_err_and c.from_residual-in_err-emit.result c.from_residual-in_err-emit.ensures.1 in
    rw (p.1, p.2) (fault_since _ c.args.host.now c.give_some.new.host c.emit.new.self Write (more_now [] (c.in_ok-give_some.ensures.ok).0) c.in_err-emit.ensures.cause)

pub returns-clause-ok : goal.returns-clause-ok
returns-clause-ok g c =
    let d = g.H.Disk in
    let gave = c.in_ok-give_some.ensures.ok in
    let e = c.emit.ensures in
    let sends : Sends d c.args.bytes.now c.give_some.new.host c.emit.new.self = emit_sends {bytes = c.args.bytes.now} e.contents e.images e.input e.in_faults e.out_faults e.faults e.time in
    subst (λ (l : List ℕ). SendsMore d c.args.bytes.now c.args.block.now.items l c.args.host.now c.emit.new.self) (sym gave.1)
    (bytes_behind c.args.bytes.now (subst (λ (l : List ℕ). SendsMore d [] c.args.block.now.items l c.args.host.now c.give_some.new.host) gave.1 gave.0) c.in_ok-emit.ensures.ok sends)
