use Rattle.std.proofs.Common.{◌≡◌, ◌+◌, ◌≤◌}
use Rattle.std.specs.Vec.{vec_len, vec_capacity}
use Rattle.nx_piece.specs.Gapped.{item_count, gapped_width}
use Rattle.nx_piece.specs.Items.{gapped_of}
use Rattle.nx_piece.specs.Viewing.{seen_items}
use Rattle.nx_piece.proofs.ApartLemmas.{row}
use Rattle.nx_piece.proofs.copying.+copy_items.Given as goal

abbrev pub decreases-copy_items : goal.decreases-copy_items
decreases-copy_items l = item_count (seen_items l.items)

abbrev pub decreases-loop-item : goal.decreases-loop-item
decreases-loop-item l = item_count (seen_items l.rest)

abbrev pub invariant-loop-item : goal.invariant-loop-item
invariant-loop-item l = record {
  same : row (gapped_of l.copies.items) (seen_items l.rest) ≡ seen_items l.items;
  room : vec_len l.copies + gapped_width (seen_items l.rest) ≤ vec_capacity l.copies;
}
