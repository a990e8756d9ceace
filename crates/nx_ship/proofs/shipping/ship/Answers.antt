use Rattle.std.proofs.Common.{subst}
use Rattle.std.proofs.lemmas.Result.{err_from_is_err_and}
use Rattle.nx_host.proofs.DiskLemmas.{still_then, settled_still}
use Rattle.nx_wal.specs.declared.wal.Wal.{Wal}
use Rattle.nx_ship.specs.Sent.{EndsSending, IsSendFault}
use Rattle.nx_ship.proofs.ShippingLemmas.{ships, ships_none, unopened, headless, earlier_fault, if_err}
use Rattle.nx_ship.proofs.shipping.ship.Goals as goal

pub returns-in_err-wal : goal.returns-in_err-wal
returns-in_err-wal g c =
    let p = err_from_is_err_and c.from_residual.result c.from_residual.ensures.1 in
    let e = c.in_err-wal.field-0.0 in
    rw (p.1, p.2) (ships_none c.args.start e c.open_store.ensures.still (λ was settled. unopened was e (c.in_err-wal.ensures.err was settled)) c.in_err-wal.ensures.cause)

pub returns-in_err-header : goal.returns-in_err-header
returns-in_err-header g c =
    let p = err_from_is_err_and c.from_residual-in_err-header.result c.from_residual-in_err-header.ensures.1 in
    let e = c.in_err-header.field-0.0 in
    let still = still_then c.open_store.ensures.still c.read_head.ensures.still in
    rw (p.1, p.2)
    (ships_none c.args.start e still
    (λ was settled.
    let (step, mark) = c.in_ok-wal.ensures.ok was settled in
    headless was e mark (c.in_err-header.ensures.err was step c.in_ok-wal.ensures.fresh))
    (earlier_fault c.args.host.now c.open_store.new.disk c.read_head.new.disk e c.open_store.ensures.still c.in_err-header.ensures.cause))

pub returns : goal.returns
returns g c =
    let still = still_then c.open_store.ensures.still c.read_head.ensures.still in
    let same = c.in_ok-header.ensures.stays in
    let d = g.H.Disk in
    ships c.args.start c.send.result still
    (λ was settled.
    let (step, mark) = c.in_ok-wal.ensures.ok was settled in
    (record { settled = settled_still c.read_head.ensures.still step.settled; follows = step.follows }, c.in_ok-header.ensures.ok was step c.in_ok-wal.ensures.fresh))
    c.in_ok-wal.ensures.fresh
    (subst (λ (w : Wal). EndsSending d c.in_ok-header.header c.args.start w c.send.result c.read_head.new.disk c.send.new.host) same c.send.ensures.ends)
    (if_err (λ e. IsSendFault d e c.read_head.new.disk c.send.new.host) c.send.result c.send.ensures.cause)
