use Rattle.std.proofs.lemmas.Result.{err_from_is_err_and}
use Rattle.nx_ship.proofs.OpenLemmas.{receives_none, receives_all, cause_later}
use Rattle.nx_ship.proofs.applying.apply.Goals as goal

pub returns-in_err-receiver : goal.returns-in_err-receiver
returns-in_err-receiver g c =
    let p = err_from_is_err_and c.from_residual.result c.from_residual.ensures.1 in
    rw (p.1, p.2) (receives_none c.in_err-receiver.field-0.0 c.open.ensures.still c.in_err-receiver.ensures.err c.in_err-receiver.ensures.cause)

pub returns : goal.returns
returns g c =
    receives_all c.receive.result c.open.ensures.still c.in_ok-receiver.ensures.ok c.receive.ensures.ends c.receive.ensures.takes
    (cause_later g.H.Disk c.args.host.now c.open.new.disk c.receive.new.host c.receive.result c.open.ensures.still c.receive.ensures.cause)
