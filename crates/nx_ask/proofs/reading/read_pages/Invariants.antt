use Rattle.std.proofs.Common.{◌≡◌, ◌+◌, ◌≤◌}
use Rattle.nx_host.specs.Disk.{Image}
use Rattle.nx_host.specs.Still.{IsStill}
use Rattle.nx_replay.specs.Log.{replay}
use Rattle.nx_wal.specs.Wal.{IsInStep}
use Rattle.nx_ask.specs.Reading.{AreFirstPages}
use Rattle.nx_ask.proofs.reading.read_pages.Given as goal

abbrev pub invariant-loop-page : goal.invariant-loop-page
invariant-loop-page g l = record {
  same : l.wal ≡ l.initial.wal;
  still : IsStill g.D.Disk l.initial.disk l.disk;
  reads : g.D.Disk.reads l.disk + 1 ≤ g.D.Disk.reads l.initial.disk + l.page;
  pages : (was : Image) → IsInStep g.D.Disk l.initial.wal l.initial.disk was → AreFirstPages l.bytes.items l.page (replay was);
}
