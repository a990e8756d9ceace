use Rattle.std.proofs.Common.{◌≡◌, ◌+◌, ◌*◌, ◌≤◌, ℕ, [], ◌∷◌, drop, length}
use Rattle.nx_host.specs.Still.{IsStill}
use Rattle.nx_records.specs.Records.{LeavesRecords}
use Rattle.nx_piece.specs.Gapped.{item_count, proxies_in}
use Rattle.nx_piece.specs.Viewing.{seen_items}
use Rattle.nx_piece.specs.Valid.{AreTrees}
use Rattle.nx_hold.specs.Changes.{place_of}
use Rattle.nx_nav.specs.Walk.{IsIntervalAt, AreOf, AreIntervalsOf}
use Rattle.nx_names.specs.Look.{RecordEnds, looks_of}
use Rattle.nx_find.specs.Wanted.{is_wanted}
use Rattle.nx_find.specs.Walked.{looks_entering}
use Rattle.nx_find.proofs.WalkLemmas.{IsOnWay}
use Rattle.nx_find.proofs.walking.+walk.Given as goal

abbrev pub decreases-show_interval : goal.decreases-show_interval
decreases-show_interval g l = 5 * l.levels + 1

abbrev pub decreases-show_items : goal.decreases-show_items
decreases-show_items g l = 5 * l.spot.levels + 4

abbrev pub decreases-show_row : goal.decreases-show_row
decreases-show_row g l = 5 * l.levels + 3

abbrev pub decreases-show_proxy : goal.decreases-show_proxy
decreases-show_proxy g l = 5 * l.levels + 2

abbrev pub decreases-show_tree : goal.decreases-show_tree
decreases-show_tree g l = 5 * l.spot.levels

abbrev pub invariant-show_interval-loop-item : goal.invariant-show_interval-loop-item
invariant-show_interval-loop-item g l =
    record {
      still : IsStill g.D.Disk l.fn.disk l.disk;
      stays : LeavesRecords l.fn.records l.records;
      trees : AreTrees (seen_items l.items);
      fits : proxies_in (seen_items l.items) ≤ length l.proxies;
      way : IsOnWay g.D.Disk g.T.Looks.Shown (is_wanted l.wanted) (IsIntervalAt g.D.Disk l.fn.records l.fn.disk (place_of l.fn.rid) l.fn.roots) (looks_entering (is_wanted l.wanted)) (RecordEnds ∷ []) (AreOf g.D.Disk l.records l.disk (seen_items l.items) l.proxies)
          l.fn.records l.fn.walk.looks l.fn.disk l.fn.walk.left l.walk.looks l.disk l.walk.left;
    }

abbrev pub decreases-show_interval-loop-item : goal.decreases-show_interval-loop-item
decreases-show_interval-loop-item g l = item_count (seen_items l.items)

abbrev pub invariant-show_items-loop-item : goal.invariant-show_items-loop-item
invariant-show_items-loop-item g l =
    record {
      still : IsStill g.D.Disk l.fn.disk l.disk;
      stays : LeavesRecords l.fn.records l.records;
      passed : (n : ℕ) × (l.rest ≡ drop n l.proxies) × (n + proxies_in (seen_items l.left) ≡ proxies_in (seen_items l.items));
      way : IsOnWay g.D.Disk g.T.Looks.Shown (is_wanted l.wanted) (AreOf g.D.Disk l.fn.records l.fn.disk (seen_items l.items) l.proxies) (looks_of (is_wanted l.wanted)) [] (AreOf g.D.Disk l.records l.disk (seen_items l.left) l.rest)
          l.fn.records l.fn.walk.looks l.fn.disk l.fn.walk.left l.walk.looks l.disk l.walk.left;
    }

abbrev pub decreases-show_items-loop-item : goal.decreases-show_items-loop-item
decreases-show_items-loop-item g l = item_count (seen_items l.left)

abbrev pub invariant-show_row-loop-proxy : goal.invariant-show_row-loop-proxy
invariant-show_row-loop-proxy g l =
    record {
      still : IsStill g.D.Disk l.fn.disk l.disk;
      stays : LeavesRecords l.fn.records l.records;
      way : IsOnWay g.D.Disk g.T.Looks.Shown (is_wanted l.wanted) (AreIntervalsOf g.D.Disk l.fn.records l.fn.disk l.proxies) (looks_of (is_wanted l.wanted)) [] (AreIntervalsOf g.D.Disk l.records l.disk (drop l.proxy-index l.proxies))
          l.fn.records l.fn.walk.looks l.fn.disk l.fn.walk.left l.walk.looks l.disk l.walk.left;
    }
