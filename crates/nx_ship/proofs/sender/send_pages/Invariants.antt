use Rattle.std.proofs.Common.{◌≡◌}
use Rattle.nx_ship.specs.Sent.{SendsPages}
use Rattle.nx_ship.proofs.sender.send_pages.Given as goal

-- the first pages were sent
abbrev pub invariant-loop-page : goal.invariant-loop-page
invariant-loop-page g l = record {
  stays : l.wal ≡ l.initial.wal;
  sent : SendsPages g.H.Disk l.page l.initial.wal l.initial.block.items l.block.items l.initial.host l.host;
}
