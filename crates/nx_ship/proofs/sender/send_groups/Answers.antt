use Rattle.std.proofs.Common.{sym, subst, ◌∙◌, refl, arith}
use Rattle.std.specs.List.{length_refill}
use Rattle.std.proofs.lemmas.Result.{err_from_is_err_and}
use Rattle.nx_wal.specs.declared.wal.Wal.{Wal}
use Rattle.nx_ship.specs.Sent.{SendsWanted, StopsAtWanted}
use Rattle.nx_ship.specs.declared.error.ShipError.TheVariants.{Memory}
use Rattle.nx_ship.proofs.SendLemmas.{more_now, fault_since}
use Rattle.nx_ship.proofs.GroupsLemmas.{up_to_none, up_to_then, up_to_end, up_to_unbegun, up_to_stopped}
use Rattle.nx_ship.proofs.sender.send_groups.Goals as goal

pub returns-in_err-part-clause-err : goal.returns-in_err-part-clause-err
returns-in_err-part-clause-err g c =
    let p = err_from_is_err_and c.from_residual.result c.from_residual.ensures.1 in
    rw (p.1, p.2) (up_to_unbegun {d = g.H.Disk} c.args.number Memory tt)

pub loop-index-init : goal.loop-index-init
loop-index-init g c = record { stays = refl; room = c.in_ok-part.ensures; sent = up_to_none {d = g.H.Disk} c.args.number c.args.wal.now c.args.block.now.items c.args.host.now }

pub loop-index-preserved : goal.loop-index-preserved
loop-index-preserved g c =
    let d = g.H.Disk in
    let i = c.loop-index.invariant in
    let part = c.loop-index.part in
    let ok = c.in_ok-found.ensures.ok in
    record {
      stays = ok.0 ∙ i.stays;
      room = sym (length_refill part.len part.items c.send_wanted.new.part part.ok.0) ∙ part.ok.0 ∙ i.room;
      sent = up_to_then c.args.number c.loop-index.index c.in_ok-found.found
          (λ log follows. let count = c.groups-index-end.ensures.count log follows in omega (arith, count, c.loop-index-test.true)) i.sent
          (subst (λ (w : Wal). SendsWanted d c.args.number c.loop-index.index w c.loop-index.found c.in_ok-found.found c.loop-index.block.items c.send_wanted.new.block.items c.loop-index.host c.send_wanted.new.host) i.stays ok.1);
    }

pub returns-in_err-found-clause-err : goal.returns-in_err-found-clause-err
returns-in_err-found-clause-err g c =
    let d = g.H.Disk in
    let i = c.loop-index.invariant in
    let p = err_from_is_err_and c.from_residual-in_err-found.result c.from_residual-in_err-found.ensures.1 in
    rw (p.1, p.2)
    (up_to_stopped c.args.number c.loop-index.index c.in_err-found.field-0.0 c.in_err-found.ensures.cut
    (λ log follows. let count = c.groups-index-end.ensures.count log follows in omega (arith, count, c.loop-index-test.true)) i.sent
    (subst (λ (w : Wal). StopsAtWanted d c.args.number c.loop-index.index w c.loop-index.found c.loop-index.block.items c.loop-index.host c.send_wanted.new.host) i.stays c.in_err-found.ensures.err))

pub returns-in_err-found-clause-cause : goal.returns-in_err-found-clause-cause
returns-in_err-found-clause-cause g c =
    let i = (c.loop-index.invariant).sent in
    let p = err_from_is_err_and c.from_residual-in_err-found.result c.from_residual-in_err-found.ensures.1 in
    rw (p.1, p.2) (fault_since _ c.args.host.now c.loop-index.host c.send_wanted.new.host c.in_err-found.field-0.0 (more_now i.bytes i.sends) c.in_err-found.ensures.cause)

pub returns-clause-ok : goal.returns-clause-ok
returns-clause-ok g c =
    let i = c.loop-index.invariant in
    up_to_end c.args.number c.loop-index.index (λ log follows. let count = c.groups-index-end.ensures.count log follows in omega (arith, count, c.loop-index-test.false)) i.sent
