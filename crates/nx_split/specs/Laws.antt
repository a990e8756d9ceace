-- Where the nodes of a piece stand, as a split sees it.
use Rattle.std.specs.Prelude.{◌≡◌, ℕ, List, ◌∷◌, Option, Contains}
use Rattle.nx_tree.specs.declared.node.Node.{Node}
use Rattle.nx_matrix.specs.declared.rule.Entry.{Entry}
use Rattle.nx_matrix.specs.declared.rule.Rule.{Rule}
use Rattle.nx_piece.specs.PieceNode.{node_weight}
use Rattle.nx_piece.specs.declared.piece.Piece.{Piece}
use Rattle.nx_piece.specs.Gapped.{GappedTree}
use Rattle.nx_piece.specs.Locate.{Inside, reached_in}
use Rattle.nx_sketch.specs.Sketch.{Placed}
use Rattle.nx_split.specs.Piece.{placed_of}

-- where a path leads to a node of the piece, that node is listed there
abbrev pub IsListedWhereReached : Type 0
IsListedWhereReached =
    (rules : List Rule) (above : Option Node) (piece : Piece) (member : ℕ) (path : List ℕ) (tree : GappedTree) (first : ℕ) → reached_in piece member path ≡ Inside tree first
    → (entry : Entry) × Contains (placed_of rules above piece) (record { path = member ∷ path; weight = node_weight tree.node; entry = entry })

-- to each node that is listed its path leads in the piece
abbrev pub IsReachedWhereListed : Type 0
IsReachedWhereListed =
    (rules : List Rule) (above : Option Node) (piece : Piece) (node : Placed) → Contains (placed_of rules above piece) node
    → (member : ℕ) × (path : List ℕ) × (tree : GappedTree) × (first : ℕ) × (node.path ≡ member ∷ path) × (reached_in piece member path ≡ Inside tree first) × (node.weight ≡ node_weight tree.node)
