use Rattle.nx_replay.proofs.SettledLemmas.{on_ok}
use Rattle.nx_wal.proofs.MovingLemmas.{moves_goes, synced_goes, settled_moved, emptied_goes, emptied}
use Rattle.nx_wal.proofs.OwnLemmas.{moves_own, emptied_own}
use Rattle.nx_wal.proofs.moving.empty_log.Goals as goal

pub returns-in_err-move_pages-clause-goes : goal.returns-in_err-move_pages-clause-goes
returns-in_err-move_pages-clause-goes g c = moves_goes (c.move_pages.ensures.moves).goes

pub returns-in_err-sync_pages-clause-goes : goal.returns-in_err-sync_pages-clause-goes
returns-in_err-sync_pages-clause-goes g c = moves_goes (synced_goes c.move_pages.ensures.moves c.sync_pages.ensures.goes)

pub returns-clause-goes : goal.returns-clause-goes
returns-clause-goes g c =
    emptied_goes c.move_pages.ensures.moves c.sync_pages.ensures.goes
    (settled_moved c.move_pages.ensures.moves c.in_ok-move_pages.ensures.moved g.met.D.Disk.contents_may_stay c.sync_pages.ensures.images c.in_ok-sync_pages.ensures.durable)
    c.write_gate.ensures.goes

pub returns-clause-ok : goal.returns-clause-ok
returns-clause-ok g c = on_ok c.write_gate.result c.write_gate.ensures.written (λ written was now led some told.
    emptied
    (settled_moved c.move_pages.ensures.moves c.in_ok-move_pages.ensures.moved g.met.D.Disk.contents_may_stay c.sync_pages.ensures.images c.in_ok-sync_pages.ensures.durable)
    (c.write_gate.ensures.goes).told led some told written)

pub returns-in_err-move_pages-clause-own : goal.returns-in_err-move_pages-clause-own
returns-in_err-move_pages-clause-own g c = moves_own (c.move_pages.ensures.moves).goes

pub returns-in_err-sync_pages-clause-own : goal.returns-in_err-sync_pages-clause-own
returns-in_err-sync_pages-clause-own g c = moves_own (synced_goes c.move_pages.ensures.moves c.sync_pages.ensures.goes)

pub returns-clause-own : goal.returns-clause-own
returns-clause-own g c =
    emptied_own c.move_pages.ensures.moves c.in_ok-move_pages.ensures.moved c.sync_pages.ensures.goes c.in_ok-sync_pages.ensures.durable
    (settled_moved c.move_pages.ensures.moves c.in_ok-move_pages.ensures.moved g.met.D.Disk.contents_may_stay c.sync_pages.ensures.images c.in_ok-sync_pages.ensures.durable)
    c.write_gate.ensures.goes
