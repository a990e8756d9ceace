use Rattle.std.proofs.Common.{subst, ◌∙◌}
use Rattle.nx_wal.specs.declared.wal.Wal.{Wal}
use Rattle.nx_ship.specs.Sent.{SendsGroup, StopsAtGroup}
use Rattle.nx_ship.proofs.SendLemmas.{any_err}
use Rattle.nx_ship.proofs.EntryLemmas.{differ}
use Rattle.nx_ship.proofs.PartLemmas.{wanted_by, wanted_sent, wanted_cut, wanted_passed}
use Rattle.nx_ship.proofs.sender.send_wanted.Goals as goal

pub returns-then-head-number-clause-ok : goal.returns-then-head-number-clause-ok
returns-then-head-number-clause-ok g c =
    let ok = c.in-Ok.ensures.ok in
    (ok.0, wanted_passed c.args.number c.args.index c.args.found c.in-Ok.head c.group_head.ensures.still ok.2 c.if-not-found.true (differ c.in-Ok.head.number c.args.number c.if-head-number.true))

pub returns-in_err-send_group-clause-err : goal.returns-in_err-send_group-clause-err
returns-in_err-send_group-clause-err g c =
    let ok = c.in-Ok.ensures.ok in
    any_err c.from_residual.result
    (wanted_cut c.args.number c.args.index c.args.found c.in-Ok.head c.group_head.ensures.still ok.2 (wanted_by c.args.number c.args.found c.in-Ok.head c.else-not-found.either)
    (subst (λ (w : Wal). StopsAtGroup g.H.Disk c.args.index c.in-Ok.head w c.args.block.now.items c.group_head.new.disk c.send_group.new.host) ok.0 c.in_err-send_group.ensures.err))

pub returns-clause-ok : goal.returns-clause-ok
returns-clause-ok g c =
    let ok = c.in-Ok.ensures.ok in
    let sent = c.in_ok-send_group.ensures.ok in (
      sent.0 ∙ ok.0,
      wanted_sent c.args.number c.args.index c.args.found c.in-Ok.head c.group_head.ensures.still ok.2 (wanted_by c.args.number c.args.found c.in-Ok.head c.else-not-found.either)
          (subst (λ (w : Wal). SendsGroup g.H.Disk c.args.index c.in-Ok.head w c.args.block.now.items c.send_group.new.block.items c.group_head.new.disk c.send_group.new.host) ok.0 sent.1),
    )
