use Rattle.std.proofs.Common.{◌≡◌, ◌++◌, ◌≤◌}
use Rattle.nx_piece.specs.Contents.{fars_in}
use Rattle.nx_piece.specs.Gapped.{item_count}
use Rattle.nx_piece.specs.Viewing.{seen_items}
use Rattle.nx_hold.proofs.taking.+gather_fars.Given as goal

abbrev pub decreases-gather_fars : goal.decreases-gather_fars
decreases-gather_fars l = item_count (seen_items l.items)

abbrev pub decreases-loop-item : goal.decreases-loop-item
decreases-loop-item l = item_count (seen_items l.rest)

abbrev pub invariant-loop-item : goal.invariant-loop-item
invariant-loop-item l = record {
  same : l.fars.items ++ fars_in (seen_items l.rest) ≡ l.initial.fars.items ++ fars_in (seen_items l.items);
  few : item_count (seen_items l.rest) ≤ item_count (seen_items l.items);
}
