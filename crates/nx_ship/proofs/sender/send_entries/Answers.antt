use Rattle.std.proofs.Common.{◌+◌, ◌≤◌, ◌∙◌, arith, subst}
use Rattle.std.proofs.lemmas.Result.{err_from_is_err_and}
use Rattle.nx_wal.specs.declared.wal.Wal.{Wal}
use Rattle.nx_ship.specs.Sent.{SendsPart, StopsAtPart}
use Rattle.nx_ship.proofs.SendLemmas.{more_now, fault_since, any_err}
use Rattle.nx_ship.proofs.PartLemmas.{parts_then, parts_stop}
use Rattle.nx_ship.proofs.sender.send_entries.Goals as goal

pub returns-in_err-send_part-clause-err : goal.returns-in_err-send_part-clause-err
returns-in_err-send_part-clause-err g c =
    let d = g.H.Disk in
    let i = c.loop-first.invariant in
    let first = c.loop-first.first in
    let more = c.min-more.result in
    let fits : first + more ≤ c.args.count = omega (arith, c.min-more.ensures, c.loop-first-test.true) in
    any_err c.from_residual.result
    (parts_stop c.args.index first more c.args.count fits i.sent
    (subst (λ (w : Wal). StopsAtPart d c.args.index first more w c.loop-first.block.items c.loop-first.host c.send_part.new.host) i.stays c.in_err-send_part.ensures.err))

pub returns-in_err-send_part-clause-cause : goal.returns-in_err-send_part-clause-cause
returns-in_err-send_part-clause-cause g c =
    let i = c.loop-first.invariant in
    let p = err_from_is_err_and c.from_residual.result c.from_residual.ensures.1 in
    rw (p.1, p.2) (fault_since _ c.args.host.now c.loop-first.host c.send_part.new.host c.in_err-send_part.field-0.0 (more_now (i.sent).bytes (i.sent).sends) c.in_err-send_part.ensures.cause)

pub loop-first-preserved : goal.loop-first-preserved
loop-first-preserved g c =
    let d = g.H.Disk in
    let i = c.loop-first.invariant in
    let first = c.loop-first.first in
    let more = c.min-more.result in
    let ok = c.in_ok-send_part.ensures.ok in
    record {
      stays = ok.0 ∙ i.stays;
      within = omega (arith, c.min-more.ensures, c.loop-first-test.true);
      room = c.send_part.ensures.room;
      sent = parts_then c.args.index first more i.sent
          (subst (λ (w : Wal). SendsPart d c.args.index first more w c.loop-first.block.items c.send_part.new.block.items c.loop-first.host c.send_part.new.host) i.stays ok.1);
    }
