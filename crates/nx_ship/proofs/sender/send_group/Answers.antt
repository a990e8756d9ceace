use Rattle.std.proofs.Common.{List, ℕ, subst}
use Rattle.nx_replay.proofs.SettledLemmas.{on_ok}
use Rattle.nx_ship.specs.Sent.{SendsPart, StopsAtPart}
use Rattle.nx_ship.proofs.SendLemmas.{on_err}
use Rattle.nx_ship.proofs.PartLemmas.{group_sent, group_cut}
use Rattle.nx_ship.proofs.sender.send_group.Goals as goal

pub returns-clause-ok : goal.returns-clause-ok
returns-clause-ok g c =
    on_ok c.send_entries.result c.send_entries.ensures.ok (λ more. (
      more.0,
      group_sent c.args.index c.args.head
          (subst (λ (l : List ℕ). SendsPart g.H.Disk c.args.index 0 c.args.head.count c.args.wal.now l c.send_entries.new.block.items c.args.host.now c.send_entries.new.host) c.in_ok-add_head.ensures more.1),
    ))

pub returns-clause-err : goal.returns-clause-err
returns-clause-err g c =
    on_err c.send_entries.result c.send_entries.ensures.err (λ some.
    group_cut c.args.index c.args.head
    (subst (λ (l : List ℕ). StopsAtPart g.H.Disk c.args.index 0 c.args.head.count c.args.wal.now l c.args.host.now c.send_entries.new.host) c.in_ok-add_head.ensures some))
