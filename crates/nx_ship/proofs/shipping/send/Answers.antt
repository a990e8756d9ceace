use Rattle.std.proofs.Common.{rules, subst, sym}
use Rattle.nx_ship.specs.Sent.{EndsSending}
use Rattle.nx_ship.specs.declared.error.Start.{Start}
use Rattle.nx_ship.proofs.ShippingLemmas.{all_sending, from_sending}
use Rattle.nx_ship.proofs.shipping.send.Goals as goal

pub send_all-requires : goal.send_all-requires
send_all-requires g c = search rules

pub send_from-requires : goal.send_from-requires
send_from-requires g c = search rules

pub returns-in-All-clause-ends : goal.returns-in-All-clause-ends
returns-in-All-clause-ends g c =
    let d = g.H.Disk in
    subst (λ (s : Start). EndsSending d c.args.header.now s c.args.wal.now c.send_all.result c.args.host.now c.send_all.new.host) (sym c.in-All.is)
    (all_sending c.args.header.now c.send_all.result c.send_all.ensures.ends)

pub returns-in-All-clause-cause : goal.returns-in-All-clause-cause
returns-in-All-clause-cause g c = c.send_all.ensures.cause

pub returns-clause-ends : goal.returns-clause-ends
returns-clause-ends g c =
    let d = g.H.Disk in
    subst (λ (s : Start). EndsSending d c.args.header.now s c.args.wal.now c.send_from.result c.args.host.now c.send_from.new.host) (sym c.in-Number.is)
    (from_sending c.in-Number.number c.args.header.now c.send_from.result c.send_from.ensures.ends)

pub returns-clause-cause : goal.returns-clause-cause
returns-clause-cause g c = c.send_from.ensures.cause
