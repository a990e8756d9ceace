-- Another tree in the place of one of a piece, and another content of a node.
use Rattle.std.specs.Prelude.{◌≡◌, ℕ, zero, suc, ◌+◌, ◌-◌, ◌≤◌, List, [], ◌∷◌, take, drop, Option}
use Rattle.nx_piece.specs.declared.piece.Far.{Far}
use Rattle.nx_piece.specs.PieceNode.{MayBeFar, PieceNode, node_weight, item_slots}
use Rattle.nx_piece.specs.declared.piece.Piece.{Piece}
use Rattle.nx_piece.specs.declared.piece.Proxy.{Proxy}
use Rattle.nx_piece.specs.Gapped.{Gapped, GappedTree, End, Grow, Gap, gapped_size, gapped_weight, proxies_in}
use Rattle.nx_piece.specs.Locate.{Inside, roots_of, reached_in}
use Rattle.nx_piece.specs.Valid.{IsPiece, IsValidPiece}

-- Trees and gaps with another tree in the place of the one that a position and a path lead to. The proxies are those of the gaps; each stands for as many trees as it has roots.
abbrev pub with_tree : ℕ → List ℕ → (new : GappedTree) → Gapped → List Proxy → Gapped
with_tree position path new End proxies = End
with_tree zero [] new (Grow node below beside) proxies = Grow new.node new.below beside
with_tree zero (next ∷ path) new (Grow node below beside) proxies = Grow node (with_tree next path new below proxies) beside
with_tree (suc position) path new (Grow node below beside) proxies = Grow node below (with_tree position path new beside (drop (proxies_in below) proxies))
with_tree position path new (Gap count beside) proxies = Gap count (with_tree (position - roots_of (take count proxies)) path new beside (drop count proxies))

-- a tree with another one in the place of that at the path, itself where the path is empty
abbrev pub tree_with : List ℕ → (new : GappedTree) → GappedTree → List Proxy → GappedTree
tree_with [] new tree proxies = new
tree_with (position ∷ path) new tree proxies = record { node = tree.node; below = with_tree position path new tree.below proxies }

-- a node with another content, which may be far
abbrev pub node_with_content : List ℕ → Option Far → PieceNode → PieceNode
node_with_content content far node = record { node = record node.node { content = content }; far = far }

-- a tree whose node has another content
abbrev pub with_content : List ℕ → Option Far → GappedTree → GappedTree
with_content content far tree = record { node = node_with_content content far tree.node; below = tree.below }

-- the path leads to a tree of the piece
abbrev pub LeadsInside : Piece → ℕ → List ℕ → Type 0
LeadsInside piece member path = (tree : GappedTree) × (first : ℕ) × (reached_in piece member path ≡ Inside tree first)

-- The node that the path leads to has another content. A valid piece may be split then, where the node's item takes no more slots than a piece's may, and is valid where all of them take no more.
pub record IsWithContent (piece : Piece) (member : ℕ) (path content : List ℕ) (far : Option Far) (changed : Piece) : Type 0 where
  pub tree : GappedTree
  pub first : ℕ
  pub leads : reached_in piece member path ≡ Inside tree first
  pub body : changed.body.roots ≡ with_tree member path (with_content content far tree) piece.body.roots piece.proxies
  pub proxies : changed.proxies ≡ piece.proxies
  pub weighs : gapped_weight changed.body.roots + node_weight tree.node ≡ gapped_weight piece.body.roots + node_weight (node_with_content content far tree.node)
  pub sized : gapped_size changed.body.roots + item_slots tree.node ≡ gapped_size piece.body.roots + item_slots (node_with_content content far tree.node)
  pub large : IsValidPiece piece → MayBeFar (node_with_content content far tree.node) → item_slots (node_with_content content far tree.node) ≤ 256 → IsPiece changed
  pub valid : IsValidPiece piece → MayBeFar (node_with_content content far tree.node) → gapped_size changed.body.roots ≤ 256 → IsValidPiece changed
