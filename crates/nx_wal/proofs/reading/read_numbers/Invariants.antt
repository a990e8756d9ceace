use Rattle.std.proofs.Common.{◌≡◌, ◌+◌, ◌-◌, ◌*◌, ◌≤◌, ◌++◌, length, drop}
use Rattle.std.specs.Prelude.{Some}
use Rattle.nx_host.specs.Disk.{Image}
use Rattle.nx_host.specs.Still.{IsStill}
use Rattle.nx_replay.specs.Log.{rise, entries_in}
use Rattle.nx_wal.specs.Reading.{page_numbers}
use Rattle.nx_wal.proofs.reading.read_numbers.Given as goal

abbrev pub invariant-loop-i : goal.invariant-loop-i
invariant-loop-i g l = record {
  still : IsStill g.D.Disk l.initial.disk l.disk;
  reads : g.D.Disk.reads l.disk ≤ g.D.Disk.reads l.initial.disk + l.i;
  low : l.least ≤ 16777216;
  long : length l.numbers.items ≡ l.i;
  rest : (was : Image) → g.D.Disk.contents l.initial.disk ≡ Some was → l.at + 8196 * l.count ≤ length was.log
      → rise 0 (entries_in l.count (drop l.at was.log)) ≡ rise l.least (entries_in (l.count - l.i) (drop (l.at + 8196 * l.i) was.log));
  numbers : (was : Image) → g.D.Disk.contents l.initial.disk ≡ Some was → l.at + 8196 * l.count ≤ length was.log
      → page_numbers (entries_in l.count (drop l.at was.log)) ≡ l.numbers.items ++ page_numbers (entries_in (l.count - l.i) (drop (l.at + 8196 * l.i) was.log));
}
