-- Where a node's new child falls in the piece that the node is in, and what is asked of it there.
use Rattle.std.specs.Prelude.{◌≡◌, ℕ, ◌+◌, ◌≤◌, List, length, drop, Some}
use Rattle.std.specs.List.{slice_get}
use Rattle.nx_tree.specs.declared.node.Node.{Node}
use Rattle.nx_matrix.specs.declared.rule.Entry.{Entry}
use Rattle.nx_matrix.specs.declared.rule.Rule.{Rule}
use Rattle.nx_piece.specs.declared.piece.Piece.{Piece}
use Rattle.nx_piece.specs.declared.piece.Proxy.{Proxy}
use Rattle.nx_piece.specs.Gapped.{GappedTree}
use Rattle.nx_piece.specs.Locate.{Kept, Inside, children_of, reached_in}
use Rattle.nx_piece_edits.specs.Planting.{FallsApart, passed_at}
use Rattle.nx_split.specs.Piece.{asked}

-- The path leads to a tree of the piece, among whose children the position stands at an end or between two of them that are no roots of one record. So many proxies of the piece stand before it.
pub record IsBetweenChildren (piece : Piece) (member : ℕ) (path : List ℕ) (position index : ℕ) : Type 0 where
  pub tree : GappedTree
  pub first : ℕ
  pub leads : reached_in piece member path ≡ Inside tree first
  pub falls : FallsApart (children_of piece.proxies first tree.below) position
  pub index_is : index ≡ first + passed_at position tree.below (drop first piece.proxies)
  pub within : index ≤ length piece.proxies

-- ... it stands in the interval of a proxy, behind so many of the roots of its record.
pub record IsWithin (piece : Piece) (member : ℕ) (path : List ℕ) (position : ℕ) (proxy : Proxy) (index before : ℕ) : Type 0 where
  pub tree : GappedTree
  pub first : ℕ
  pub leads : reached_in piece member path ≡ Inside tree first
  pub there : slice_get (children_of piece.proxies first tree.below) position ≡ Some (Kept index before)
  pub some : 1 ≤ before
  pub named : slice_get piece.proxies index ≡ Some proxy

-- this is asked of the node below the node that the path leads to
abbrev pub IsAskedThere : List Rule → Piece → (member : ℕ) (path : List ℕ) (node : Node) → Entry → Type 0
IsAskedThere rules piece member path node entry = (tree : GappedTree) (first : ℕ) → reached_in piece member path ≡ Inside tree first → asked rules tree.node.node node ≡ entry
