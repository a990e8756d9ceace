use Rattle.std.proofs.Common.{◌≡◌, length}
use Rattle.nx_ship.proofs.GroupsLemmas.{SentUpTo}
use Rattle.nx_ship.proofs.sender.send_groups.Given as goal

-- the first groups were read, and those of them sent that are wanted
abbrev pub invariant-loop-index : goal.invariant-loop-index
invariant-loop-index g l = record {
  stays : l.wal ≡ l.initial.wal;
  room : length l.part.items ≡ 65568;
  sent : SentUpTo g.H.Disk l.number l.initial.wal l.found l.index l.initial.block.items l.block.items l.initial.host l.host;
}
