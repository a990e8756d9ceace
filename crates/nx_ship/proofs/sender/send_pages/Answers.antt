use Rattle.std.proofs.Common.{subst, ◌∙◌, refl}
use Rattle.std.proofs.lemmas.Result.{err_from_is_err_and}
use Rattle.nx_wal.specs.declared.wal.Wal.{Wal}
use Rattle.nx_ship.specs.Sent.{SendsPage, StopsAtPage}
use Rattle.nx_ship.proofs.SendLemmas.{gives_none, more_now, fault_since}
use Rattle.nx_ship.proofs.SendingLemmas.{pages_none, pages_then, pages_stop}
use Rattle.nx_ship.proofs.sender.send_pages.Goals as goal

pub loop-page-init : goal.loop-page-init
loop-page-init g c = record { stays = refl; sent = pages_none {d = g.H.Disk} c.args.wal.now c.args.block.now.items c.args.host.now (gives_none c.args.block.now.items) }

pub loop-page-preserved : goal.loop-page-preserved
loop-page-preserved g c =
    let d = g.H.Disk in
    let i = c.loop-page.invariant in
    let ok = c.in_ok-send_page.ensures.ok in
    record {
      stays = ok.0 ∙ i.stays;
      sent = pages_then c.loop-page.page i.sent
          (subst (λ (w : Wal). SendsPage d c.loop-page.page w c.loop-page.block.items c.send_page.new.block.items c.loop-page.host c.send_page.new.host) i.stays ok.1);
    }

pub returns-in_err-send_page-clause-err : goal.returns-in_err-send_page-clause-err
returns-in_err-send_page-clause-err g c =
    let d = g.H.Disk in
    let i = c.loop-page.invariant in
    let p = err_from_is_err_and c.from_residual.result c.from_residual.ensures.1 in
    let e = c.in_err-send_page.field-0.0 in
    rw (p.1, p.2)
    (pages_stop c.loop-page.page c.args.count e c.loop-page-test.true i.sent
    (subst (λ (w : Wal). StopsAtPage d c.loop-page.page w e c.loop-page.block.items c.loop-page.host c.send_page.new.host) i.stays c.in_err-send_page.ensures.err))

pub returns-in_err-send_page-clause-cause : goal.returns-in_err-send_page-clause-cause
returns-in_err-send_page-clause-cause g c =
    let i = c.loop-page.invariant in
    let p = err_from_is_err_and c.from_residual.result c.from_residual.ensures.1 in
    rw (p.1, p.2) (fault_since _ c.args.host.now c.loop-page.host c.send_page.new.host c.in_err-send_page.field-0.0 (more_now (i.sent).bytes (i.sent).sends) c.in_err-send_page.ensures.cause)
