-- Where a path leads in a piece, and what stands there, as it is found in the bytes.
use Rattle.std.specs.Prelude.{◌≡◌, ℕ, ◌≤◌, length, Some}
use Rattle.std.specs.List.{slice_get}
use Rattle.nx_piece.specs.declared.piece.Piece.{Piece}
use Rattle.nx_piece.specs.Gapped.{GappedTree}
use Rattle.nx_piece.specs.Flat.{seen_node}
use Rattle.nx_piece.specs.Locate.{Reached, Inside, Outside, Missing, children_of}
use Rattle.nx_seek.specs.declared.seeking.Sought.{Sought}
use Rattle.nx_seek.specs.declared.seeking.Sought.TheVariants.{Here, Away, Nowhere}

-- the answer says where the path leads, of a node of the piece besides how many children it has, and of a proxy what it is
abbrev pub IsSought : Piece → Reached → Sought → Type 0
IsSought piece end (Here node children) = (tree : GappedTree) × (first : ℕ) × (end ≡ Inside tree first) × (seen_node node ≡ tree.node) × (children ≡ length (children_of piece.proxies first tree.below))
IsSought piece end (Away proxy index member used) = (end ≡ Outside index member used) × (slice_get piece.proxies index ≡ Some proxy)
IsSought piece end Nowhere = end ≡ Missing

-- so many positions are used as a path has that leads into another record
abbrev pub UsesSome : ℕ → Sought → Type 0
UsesSome long (Here node children) = Unit {0}
UsesSome long (Away proxy index member used) = (1 ≤ used) × (used ≤ long)
UsesSome long Nowhere = Unit {0}
