-- What a record has of a row, and what is drawn of it.
use Rattle.std.specs.Prelude.{◌≡◌, ℕ, ◌≤◌, ◌↔◌, map, length, Some, Contains}
use Rattle.nx_tree.specs.Forest.{nodes}
use Rattle.nx_weights.specs.Weight.{in_order}
use Rattle.nx_piece.specs.declared.piece.Far.{Far}
use Rattle.nx_piece.specs.Gapped.{gapped_size, gapped_weight}
use Rattle.nx_piece.specs.Valid.{AreFar, AreNear}
use Rattle.nx_piece.specs.Contents.{fars_in}
use Rattle.nx_cuts.specs.Cut.{width, AreFree}
use Rattle.nx_cuts.specs.Rows.{joined_row, first, behind}
use Rattle.nx_layouts.specs.Layout.{LaidNode, Layout, without_places, laid_forest, laid_weight, piece_body, nodes_in}
use Rattle.nx_layouts.specs.Replace.{joined_layout}

-- The piece of a row has its weight, and its items take no more slots than that where each far content is as one may be and no near one is too long for an item; the lists
-- that they name are those of nodes of the row. What is drawn of the row has its nodes and its trees.
pub record BodyIsOfRow (row : Layout) : Type 0 where
  pub weighs : gapped_weight (piece_body row) ≡ laid_weight row
  pub sized : AreNear (piece_body row) → AreFar (piece_body row) → gapped_size (piece_body row) ≤ gapped_weight (piece_body row)
  pub named : (far : Far) → Contains (fars_in (piece_body row)) far → (n : LaidNode) × Contains (nodes_in row) n × (n.list ≡ Some far.first) × (length n.node.content ≡ far.length)
  pub counted : nodes (laid_forest row) ≡ length (nodes_in row)
  pub in_document : in_order (laid_forest row) ≡ map (λ n. n.node) (nodes_in row)
  pub wide : width (without_places row) ≡ width row
  pub free : AreFree (without_places row) ↔ AreFree row

abbrev pub BodiesAreOfRows : Type 0
BodiesAreOfRows = (row : Layout) → BodyIsOfRow row

-- Of rows that are joined or cut in two, what is drawn is so too.
pub record DrawnAlike (row : Layout) : Type 0 where
  pub joined : (last : Layout) → without_places (joined_layout row last) ≡ joined_row (without_places row) (without_places last)
  pub front : (n : ℕ) → without_places (first n row) ≡ first n (without_places row)
  pub back : (n : ℕ) → without_places (behind n row) ≡ behind n (without_places row)

abbrev pub RowsAreDrawnAlike : Type 0
RowsAreDrawnAlike = (row : Layout) → DrawnAlike row
