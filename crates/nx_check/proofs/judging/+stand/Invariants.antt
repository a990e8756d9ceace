use Rattle.std.proofs.Common.{◌↔◌, ◌+◌, ◌*◌, ◌≤◌}
use Rattle.nx_tree.specs.Forest.{Forest}
use Rattle.nx_tree.specs.Document.{depth, IsForest}
use Rattle.nx_piece.specs.Gapped.{item_count}
use Rattle.nx_piece.specs.Viewing.{seen_items}
use Rattle.nx_check.specs.Shown.{AreShownBy, gapped_depth}
use Rattle.nx_check.proofs.judging.+stand.Given as goal

abbrev pub decreases-stand_at : goal.decreases-stand_at
decreases-stand_at l = 2 * l.levels + 1

abbrev pub decreases-stands : goal.decreases-stands
decreases-stands l = 2 * l.levels

abbrev pub invariant-stand_at-loop-item : goal.invariant-stand_at-loop-item
invariant-stand_at-loop-item l = record {
  stand : (trees : Forest) → AreShownBy (seen_items l.items) trees
      → (rest : Forest) × AreShownBy (seen_items l.left) rest × ((IsForest trees × (depth trees ≤ l.levels)) ↔ (IsForest rest × (depth rest ≤ l.levels)));
  low : gapped_depth (seen_items l.left) ≤ l.levels → gapped_depth (seen_items l.items) ≤ l.levels;
}

abbrev pub decreases-stand_at-loop-item : goal.decreases-stand_at-loop-item
decreases-stand_at-loop-item l = item_count (seen_items l.left)
