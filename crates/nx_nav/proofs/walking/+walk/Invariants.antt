use Rattle.std.proofs.Common.{◌≡◌, ◌+◌, ◌*◌, ◌≤◌, ℕ, drop, length}
use Rattle.nx_records.specs.Records.{LeavesRecords}
use Rattle.nx_piece.specs.Gapped.{gapped_size, item_count, proxies_in}
use Rattle.nx_piece.specs.Viewing.{seen_items}
use Rattle.nx_piece.specs.Valid.{AreFar, AreTrees, HaveRoots}
use Rattle.nx_hold.specs.Changes.{place_of}
use Rattle.nx_nav.specs.Early.{LeavesOutput}
use Rattle.nx_nav.specs.Walk.{IsIntervalAt, AreOf, AreIntervalsOf}
use Rattle.nx_nav.proofs.EarlyLemmas.{ItemsRead, RowRead, RootsRead}
use Rattle.nx_nav.proofs.WayLemmas.{IsOnWay}
use Rattle.nx_nav.proofs.walking.+walk.Given as goal

abbrev pub decreases-tell_interval : goal.decreases-tell_interval
decreases-tell_interval g l = 4 * l.depth + 1

abbrev pub decreases-tell_items : goal.decreases-tell_items
decreases-tell_items g l = 4 * l.spot.depth + 3

abbrev pub decreases-tell_row : goal.decreases-tell_row
decreases-tell_row g l = 4 * l.depth + 2

abbrev pub decreases-tell_tree : goal.decreases-tell_tree
decreases-tell_tree g l = 4 * l.spot.depth

abbrev pub invariant-tell_interval-loop-item : goal.invariant-tell_interval-loop-item
invariant-tell_interval-loop-item g l =
    record {
      stays : LeavesRecords l.fn.records l.records;
      trees : AreTrees (seen_items l.items);
      far : AreFar (seen_items l.items);
      small : gapped_size (seen_items l.items) ≤ 256;
      fits : proxies_in (seen_items l.items) ≤ length l.proxies;
      rooted : HaveRoots l.proxies;
      way : IsOnWay g.D.Disk g.T.Tells.Contents g.T.Tells.Told (IsIntervalAt g.D.Disk l.fn.records l.fn.disk (place_of l.fn.rid) l.fn.roots) (AreOf g.D.Disk l.records l.disk (seen_items l.items) l.proxies)
          l.fn.walk.teller l.fn.disk l.fn.walk.left l.fn.walk.visited l.walk.teller l.disk l.walk.left l.walk.visited;
      read : LeavesOutput g.D.Disk l.fn.disk l.disk → 1 ≤ g.T.Tells.Near l.fn.walk.teller
          → RootsRead g.D.Disk g.T.Tells.Near l.fn.records l.fn.disk l.disk l.fn.walk.teller l.walk.teller (place_of l.fn.rid) l.fn.roots l.fn.depth (seen_items l.items) l.proxies;
    }

abbrev pub decreases-tell_interval-loop-item : goal.decreases-tell_interval-loop-item
decreases-tell_interval-loop-item g l = item_count (seen_items l.items)

abbrev pub invariant-tell_items-loop-item : goal.invariant-tell_items-loop-item
invariant-tell_items-loop-item g l =
    record {
      stays : LeavesRecords l.fn.records l.records;
      far : AreFar (seen_items l.left);
      small : gapped_size (seen_items l.left) ≤ 256;
      passed : (n : ℕ) × (l.rest ≡ drop n l.proxies) × (n + proxies_in (seen_items l.left) ≡ proxies_in (seen_items l.items));
      way : IsOnWay g.D.Disk g.T.Tells.Contents g.T.Tells.Told (AreOf g.D.Disk l.fn.records l.fn.disk (seen_items l.items) l.proxies) (AreOf g.D.Disk l.records l.disk (seen_items l.left) l.rest)
          l.fn.walk.teller l.fn.disk l.fn.walk.left l.fn.walk.visited l.walk.teller l.disk l.walk.left l.walk.visited;
      read : LeavesOutput g.D.Disk l.fn.disk l.disk → 2 ≤ g.T.Tells.Near l.fn.walk.teller
          → ItemsRead g.D.Disk g.T.Tells.Near l.fn.records l.fn.disk l.disk l.fn.walk.teller l.walk.teller (seen_items l.items) (seen_items l.left) l.proxies l.rest;
    }

abbrev pub decreases-tell_items-loop-item : goal.decreases-tell_items-loop-item
decreases-tell_items-loop-item g l = item_count (seen_items l.left)

abbrev pub invariant-tell_row-loop-proxy : goal.invariant-tell_row-loop-proxy
invariant-tell_row-loop-proxy g l =
    record {
      stays : LeavesRecords l.fn.records l.records;
      way : IsOnWay g.D.Disk g.T.Tells.Contents g.T.Tells.Told (AreIntervalsOf g.D.Disk l.fn.records l.fn.disk l.proxies) (AreIntervalsOf g.D.Disk l.records l.disk (drop l.proxy-index l.proxies))
          l.fn.walk.teller l.fn.disk l.fn.walk.left l.fn.walk.visited l.walk.teller l.disk l.walk.left l.walk.visited;
      read : LeavesOutput g.D.Disk l.fn.disk l.disk → 2 ≤ g.T.Tells.Near l.fn.walk.teller
          → RowRead g.D.Disk g.T.Tells.Near l.fn.records l.fn.disk l.disk l.fn.walk.teller l.walk.teller l.proxy-index l.proxies;
    }
