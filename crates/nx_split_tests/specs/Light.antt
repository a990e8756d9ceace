-- Trees of pieces none of whose nodes is too heavy.
use Rattle.std.specs.Prelude.{ℕ, ◌≤◌}
use Rattle.nx_piece.specs.PieceNode.{node_weight}
use Rattle.nx_piece.specs.Gapped.{GappedTree}
use Rattle.nx_split.specs.Piece.{AreGappedAtMost}

abbrev pub IsTreeAtMost : ℕ → GappedTree → Type 0
IsTreeAtMost k tree = (node_weight tree.node ≤ k) × AreGappedAtMost k tree.below
