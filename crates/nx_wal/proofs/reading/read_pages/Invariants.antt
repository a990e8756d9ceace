use Rattle.std.proofs.Common.{◌≡◌, ◌+◌, ◌*◌, ◌≤◌, length, drop}
use Rattle.std.specs.Prelude.{Some}
use Rattle.nx_host.specs.Disk.{Image}
use Rattle.nx_host.specs.Still.{IsStill}
use Rattle.nx_groups.specs.Groups.{entries}
use Rattle.nx_replay.specs.Log.{entries_in}
use Rattle.nx_wal.proofs.reading.read_pages.Given as goal

abbrev pub invariant-loop-i : goal.invariant-loop-i
invariant-loop-i g l = record {
  still : IsStill g.D.Disk l.initial.disk l.disk;
  reads : g.D.Disk.reads l.disk ≤ g.D.Disk.reads l.initial.disk + l.i;
  pages : (was : Image) → g.D.Disk.contents l.initial.disk ≡ Some was → l.at + 8196 * l.count ≤ length was.log → entries l.pages ≡ entries_in l.i (drop l.at was.log);
}
