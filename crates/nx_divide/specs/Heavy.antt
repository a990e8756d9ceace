-- Which intervals may be divided.
use Rattle.std.specs.Prelude.{◌≤◌, ℕ}
use Rattle.nx_tree.specs.Forest.{nodes}
use Rattle.nx_piece.specs.declared.piece.Piece.{Piece}
use Rattle.nx_piece.specs.Valid.{AreFar, AreNear, IsPiece}
use Rattle.nx_layouts.specs.Layout.{Layout, without_places, laid_forest, piece_body, piece_of}
use Rattle.nx_split.specs.Piece.{AreGappedAtMost}
use Rattle.nx_drawn.specs.Growth.{MayBeHeavy}
use Rattle.nx_divide.specs.Marked.{many}

-- The piece may be divided into parts of at most k.
pub record MayBeDivided (k : ℕ) (piece : Piece) : Type 0 where
  pub is : IsPiece piece
  pub few : many piece.body.roots ≤ 524288
  pub nodes : AreGappedAtMost k piece.body.roots

-- The members of an interval whose part became too heavy by a node that comes or gets another content, in a document of at most 524,288 nodes, have a piece that may be divided, where their far contents are just those that are too long
-- for an item.
abbrev pub HeavyIsPiece : Type 0
HeavyIsPiece = (k limit wide : ℕ) (members : Layout) → k ≤ 256 → limit ≤ 512 → wide ≤ 257 → AreNear (piece_body members) → AreFar (piece_body members) → MayBeHeavy k limit wide (without_places members)
    → nodes (laid_forest members) ≤ 524288 → MayBeDivided k (piece_of members)
