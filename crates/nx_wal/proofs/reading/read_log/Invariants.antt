use Rattle.std.proofs.Common.{ℕ, ◌≡◌, ◌+◌, ◌-◌, ◌*◌, ◌≤◌, ◌^◌, length}
use Rattle.std.specs.Prelude.{Some, min}
use Rattle.nx_host.specs.Disk.{Image}
use Rattle.nx_host.specs.Still.{IsStill}
use Rattle.nx_wal.specs.Reading.{IsLogReadTo}
use Rattle.nx_wal.specs.Places.{AreWithin}
use Rattle.nx_wal.proofs.reading.read_log.Given as goal

abbrev pub invariant-loop-head : goal.invariant-loop-head
invariant-loop-head g l = record {
  low : l.at ≤ l.limit;
  still : IsStill g.D.Disk l.initial.disk l.disk;
  reads : (k : ℕ) × (8196 * k ≤ l.at) × (g.D.Disk.reads l.disk ≤ g.D.Disk.reads l.initial.disk + 3 * k);
  so_far : (was : Image) → g.D.Disk.contents l.initial.disk ≡ Some was → l.limit ≡ min (2 ^ 63) (length was.log) → IsLogReadTo l.places l.starts.items l.at was.log;
  within : AreWithin l.at l.places;
}

abbrev pub decreases-loop-head : goal.decreases-loop-head
decreases-loop-head g l = l.limit - l.at
