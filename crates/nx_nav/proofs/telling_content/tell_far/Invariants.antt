use Rattle.std.proofs.Common.{◌≡◌, ◌≤◌, ◌+◌, ◌*◌}
use Rattle.nx_numbers.specs.Sizes.{page_room}
use Rattle.nx_records.specs.Words.{chain_count}
use Rattle.nx_records.specs.Records.{LeavesRecords}
use Rattle.nx_nav.specs.Early.{LeavesOutput}
use Rattle.nx_nav.proofs.ContentLemmas.{IsTelling}
use Rattle.nx_nav.proofs.telling_content.tell_far.Given as goal

abbrev pub invariant-loop-alloc : goal.invariant-loop-alloc
invariant-loop-alloc g l =
    record {
      stays : LeavesRecords l.fn.records l.records;
      telling : IsTelling g.D.Disk g.T.Tells.Told l.fn.records l.fn.disk l.fn.far l.fn.teller l.records l.disk l.reader l.teller;
      few : g.D.Disk.reads l.disk ≤ g.D.Disk.reads l.fn.disk + chain_count l.fn.far.length;
      full : (l.reader.left ≡ 0 → ⊥) → page_room * g.D.Disk.reads l.disk + l.reader.left ≤ page_room * g.D.Disk.reads l.fn.disk + l.fn.far.length;
      unread : LeavesOutput g.D.Disk l.fn.disk l.disk → 3 ≤ g.T.Tells.Near l.fn.teller → g.D.Disk.reads l.disk ≤ g.D.Disk.reads l.fn.disk;
    }

abbrev pub decreases-loop-alloc : goal.decreases-loop-alloc
decreases-loop-alloc g l = l.reader.left
