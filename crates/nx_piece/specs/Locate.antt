-- The children of a node of a piece, those that its proxies stand for among them, and where a path leads.
use Rattle.std.specs.Prelude.{◌≡◌, ℕ, zero, suc, ◌+◌, ◌≤◌, List, [], ◌∷◌, ◌++◌, length, take, drop, Option, None, Some}
use Rattle.std.specs.List.{slice_get, sum_by}
use Rattle.nx_piece.specs.declared.piece.Piece.{Piece}
use Rattle.nx_piece.specs.declared.piece.Proxy.{Proxy}
use Rattle.nx_piece.specs.declared.locating.Located.{Located}
use Rattle.nx_piece.specs.declared.locating.Located.TheVariants.{Here, Away, Nowhere}
use Rattle.nx_piece.specs.PieceNode.{item_slots}
use Rattle.nx_piece.specs.Gapped.{Gapped, GappedTree, End, Grow, Gap, gapped_size, proxies_in}

-- how many trees these proxies stand for
abbrev pub roots_of : List Proxy → ℕ
roots_of proxies = sum_by (λ proxy. proxy.roots) proxies

-- a child of a node: a tree of this piece, before whose own items so many proxies stand; or a root of the record of a proxy
pub data PieceChild : Type 0 where
  Own : (tree : GappedTree) (first : ℕ) → PieceChild
  Kept : (index member : ℕ) → PieceChild

-- so many roots of the record of a proxy, from one on
abbrev pub roots_from : (index member count : ℕ) → List PieceChild
roots_from index member zero = []
roots_from index member (suc count) = Kept index member ∷ roots_from index (member + 1) count

-- the children that proxies stand for, the first of which has this index
abbrev pub kept_from : ℕ → List Proxy → List PieceChild
kept_from index [] = []
kept_from index (proxy ∷ proxies) = roots_from index 0 proxy.roots ++ kept_from (index + 1) proxies

-- trees and what the gaps between them stand for, in order; so many of the proxies stand before them
abbrev pub children_of : List Proxy → ℕ → Gapped → List PieceChild
children_of proxies first End = []
children_of proxies first (Grow node below beside) =
    Own (record { node = node; below = below }) first ∷ children_of proxies (first + proxies_in below) beside
children_of proxies first (Gap count beside) = kept_from first (take count (drop first proxies)) ++ children_of proxies (first + count) beside

-- where a path leads: to a tree of this piece, into the record of a proxy after so many positions, or to nothing
pub data Reached : Type 0 where
  Inside : (tree : GappedTree) (first : ℕ) → Reached
  Outside : (index member used : ℕ) → Reached
  Missing : Reached

-- where a path leads from a child on, which was reached after so many positions
abbrev pub reached : List Proxy → ℕ → List ℕ → Option PieceChild → Reached
reached proxies used path None = Missing
reached proxies used path (Some (Kept index member)) = Outside index member used
reached proxies used [] (Some (Own tree first)) = Inside tree first
reached proxies used (position ∷ path) (Some (Own tree first)) =
    reached proxies (used + 1) path (slice_get (children_of proxies first tree.below) position)

-- where a path leads that begins at the root with this index
abbrev pub reached_in : Piece → ℕ → List ℕ → Reached
reached_in piece member path = reached piece.proxies 0 path (slice_get (children_of piece.proxies 0 piece.body.roots) member)

-- the tree may stand in the piece, with so many proxies before its own items
pub record IsPartOf (piece : Piece) (tree : GappedTree) (first : ℕ) : Type 0 where
  pub fits : first + proxies_in tree.below ≤ length piece.proxies
  pub small : item_slots tree.node + gapped_size tree.below ≤ 512

-- the answer says where the path leads, and of a proxy besides what it is
abbrev pub IsLocated : Piece → Reached → Located → Type 0
IsLocated piece end (Here tree first) = (end ≡ Inside tree.now first) × IsPartOf piece tree.now first
IsLocated piece end (Away proxy index member used) = (end ≡ Outside index member used) × (slice_get piece.proxies index ≡ Some proxy)
IsLocated piece end Nowhere = end ≡ Missing
