use Rattle.std.proofs.Common.{◌≡◌, ◌+◌, ◌≤◌}
use Rattle.std.specs.Vec.{vec_len, vec_capacity}
use Rattle.nx_piece.specs.Gapped.{grown_of, item_count, gapped_width}
use Rattle.nx_piece.specs.Valid.{AreTrees}
use Rattle.nx_piece.specs.Viewing.{seen_items}
use Rattle.nx_piece.proofs.ApartLemmas.{row}
use Rattle.nx_piece.proofs.copying.copy_body.Given as goal

abbrev pub decreases-loop-item : goal.decreases-loop-item
decreases-loop-item l = item_count (seen_items l.rest)

abbrev pub invariant-loop-item : goal.invariant-loop-item
invariant-loop-item l = record {
  same : row (grown_of l.trees.items) (seen_items l.rest) ≡ l.body.roots;
  trees : AreTrees (seen_items l.rest);
  room : vec_len l.trees + gapped_width (seen_items l.rest) ≤ vec_capacity l.trees;
}
