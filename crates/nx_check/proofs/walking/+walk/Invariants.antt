use Rattle.std.proofs.Common.{◌≡◌, ◌+◌, ◌*◌, ◌≤◌, ℕ, drop, length}
use Rattle.nx_host.specs.Disk.{Image}
use Rattle.nx_host.specs.Still.{IsStill}
use Rattle.nx_tree.specs.declared.node.Kind.TheVariants.{Element}
use Rattle.nx_piece.specs.Gapped.{item_count, proxies_in}
use Rattle.nx_piece.specs.Valid.{AreTrees}
use Rattle.nx_piece.specs.Viewing.{seen_items, seen_tree}
use Rattle.nx_cuts.specs.Rows.{joined_row}
use Rattle.nx_rules.specs.Walked.{walked_forest}
use Rattle.nx_check.specs.Heads.{heads, item_heads}
use Rattle.nx_check.specs.Shown.{gapped_depth}
use Rattle.nx_check.specs.Siblings.{AreAround}
use Rattle.nx_check.specs.Standing.{StandsThere, waiting_row, IsPieceRow, IsBelow, HasSiblings}
use Rattle.nx_check.proofs.WalkLemmas.{HasPassed, HasRun}
use Rattle.nx_check.proofs.walking.+walk.Given as goal

abbrev pub decreases-walk_interval : goal.decreases-walk_interval
decreases-walk_interval g l = 4 * l.spot.levels + 1

abbrev pub decreases-walk_piece : goal.decreases-walk_piece
decreases-walk_piece g l = 4 * l.spot.levels

abbrev pub decreases-walk_below : goal.decreases-walk_below
decreases-walk_below g l = 4 * l.spot.levels + 3

abbrev pub decreases-walk_row : goal.decreases-walk_row
decreases-walk_row g l = 4 * l.spot.levels + 2

abbrev pub invariant-walk_piece-loop-item : goal.invariant-walk_piece-loop-item
invariant-walk_piece-loop-item g l =
    record {
      still : IsStill g.D.Disk l.fn.disk l.disk;
      same : l.walk.wal ≡ l.fn.walk.wal;
      trees : AreTrees (seen_items l.left);
      fits : proxies_in (seen_items l.left) ≤ length l.proxies;
      low : gapped_depth (seen_items l.left) ≤ l.spot.levels;
      on : (was : Image) → (s : StandsThere g.D.Disk l.fn.walk l.fn.tally l.fn.disk l.spot.page l.spot.levels l.spot.k (λ row. row) (IsPieceRow l.piece) was)
          → (h : HasPassed g.D.Disk l.walk l.tally l.disk was s.base s.stage s.around (seen_items l.left) l.proxies) × (heads (walked_forest (joined_row h.done h.todo)) ≡ heads (walked_forest s.row));
    }

abbrev pub decreases-walk_piece-loop-item : goal.decreases-walk_piece-loop-item
decreases-walk_piece-loop-item g l = item_count (seen_items l.left)

abbrev pub invariant-walk_below-loop-item : goal.invariant-walk_below-loop-item
invariant-walk_below-loop-item g l =
    record {
      still : IsStill g.D.Disk l.fn.disk l.disk;
      same : l.walk.wal ≡ l.fn.walk.wal;
      kind : l.siblings.kind ≡ l.tree.node.kind;
      passed : (n : ℕ) × (l.rest ≡ drop n l.proxies) × (n + proxies_in (seen_items l.left) ≡ proxies_in (seen_items l.tree.children));
      low : gapped_depth (seen_items l.left) ≤ l.spot.levels;
      on : (was : Image) → (s : StandsThere g.D.Disk l.fn.walk l.fn.tally l.fn.disk l.spot.page l.spot.levels l.spot.k (λ row. row) (IsBelow (seen_tree l.tree) l.proxies) was)
          → (h : HasPassed g.D.Disk l.walk l.tally l.disk was s.base s.stage s.around (seen_items l.left) l.rest)
          × (l.siblings.kind ≡ Element → AreAround l.siblings (heads (walked_forest h.done)) (item_heads (seen_items l.left)));
    }

abbrev pub decreases-walk_below-loop-item : goal.decreases-walk_below-loop-item
decreases-walk_below-loop-item g l = item_count (seen_items l.left)

abbrev pub invariant-walk_row-loop-proxy : goal.invariant-walk_row-loop-proxy
invariant-walk_row-loop-proxy g l =
    record {
      still : IsStill g.D.Disk l.fn.disk l.disk;
      same : l.walk.wal ≡ l.fn.walk.wal;
      kind : l.siblings.kind ≡ l.fn.siblings.kind;
      on : (was : Image) → (s : StandsThere g.D.Disk l.fn.walk l.fn.tally l.fn.disk l.spot.page l.spot.levels l.spot.k (waiting_row l.proxies) (HasSiblings l.fn.siblings) was)
          → HasRun g.D.Disk l.siblings l.walk l.tally l.disk was s.base s.stage s.around s.row (drop l.proxy-index l.proxies);
    }
