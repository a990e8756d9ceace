use Rattle.std.proofs.Common.{◌≡◌, ◌≤◌, ◌-◌, length}
use Rattle.nx_ship.specs.Sent.{SendsPart}
use Rattle.nx_ship.proofs.sender.send_entries.Given as goal

-- the first pages were sent
abbrev pub invariant-loop-first : goal.invariant-loop-first
invariant-loop-first g l = record {
  stays : l.wal ≡ l.initial.wal;
  within : l.first ≤ l.count;
  room : length l.part ≡ 65568;
  sent : SendsPart g.H.Disk l.index 0 l.first l.initial.wal l.initial.block.items l.block.items l.initial.host l.host;
}

abbrev pub decreases-loop-first : goal.decreases-loop-first
decreases-loop-first g l = l.count - l.first
