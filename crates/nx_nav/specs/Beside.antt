-- A child of a node as a look into the node's piece tells of it, and into the record of a proxy that stands for the child.
use Rattle.std.specs.Prelude.{◌≡◌, ◌≤◌, ◌++◌, ℕ, List, [], ◌∷◌, Option, None, Some}
use Rattle.std.specs.List.{slice_get}
use Rattle.nx_host.specs.declared.disk.Disk.{Ghosts}
use Rattle.nx_tree.specs.declared.node.Kind.{Kind}
use Rattle.nx_records.specs.declared.records.Records.{Records}
use Rattle.nx_piece.specs.declared.piece.Piece.{Piece}
use Rattle.nx_piece.specs.declared.piece.Proxy.{Proxy}
use Rattle.nx_piece.specs.Gapped.{GappedTree}
use Rattle.nx_piece.specs.Valid.{IsValidPiece}
use Rattle.nx_piece.specs.Locate.{PieceChild, Own, Kept, Reached, Inside, Outside, Missing, children_of, reached_in}
use Rattle.nx_hold.specs.Changes.{place_named}
use Rattle.nx_nav.specs.Along.{ReadsPiece}
use Rattle.nx_nav.specs.Parts.{HasNoInterval, IsPieceAt}

-- the path, and one position further where a child is asked for
abbrev pub way_on : List ℕ → Option ℕ → List ℕ
way_on path None = path
way_on path (Some position) = path ++ position ∷ []

-- the child that is asked for, of a tree of a piece with these proxies
abbrev pub child_asked : List Proxy → GappedTree → (first : ℕ) → Option ℕ → Option PieceChild
child_asked proxies tree first None = None
child_asked proxies tree first (Some position) = slice_get (children_of proxies first tree.below) position

-- the kind of the node that a path leads to in a piece
abbrev pub kind_reached : Reached → Option Kind
kind_reached (Inside tree first) = Some tree.node.node.kind
kind_reached (Outside index member used) = None
kind_reached Missing = None

-- the kind of a root of the record of a proxy, whatever may be kept there
abbrev pub IsKindOfRoot : {D : Type 0} → Ghosts D → Records → D → Proxy → (member : ℕ) → Option Kind → Type 0
IsKindOfRoot d records disk proxy member kind =
    (piece : Piece) × IsValidPiece piece × IsPieceAt d records disk (place_named proxy) proxy.roots piece × (kind ≡ kind_reached (reached_in piece member []))

-- the kind of a child, if there is one
abbrev pub IsKindOf : {D : Type 0} → Ghosts D → Records → D → List Proxy → Option PieceChild → Option Kind → Type 0
IsKindOf d records disk proxies None kind = kind ≡ None
IsKindOf d records disk proxies (Some (Own tree first)) kind = kind ≡ Some tree.node.node.kind
IsKindOf d records disk proxies (Some (Kept index member)) kind = (proxy : Proxy) × (slice_get proxies index ≡ Some proxy) × IsKindOfRoot d records disk proxy member kind

-- the child is kept in a record that holds no interval of as many roots as its proxy says
abbrev pub LacksChild : {D : Type 0} → Ghosts D → Records → D → List Proxy → Option PieceChild → Type 0
LacksChild d records disk proxies (Some (Kept index member)) = (proxy : Proxy) × (slice_get proxies index ≡ Some proxy) × HasNoInterval d records disk (place_named proxy) proxy.roots
LacksChild d records disk proxies _ = ⊥

-- no more pages were read than the piece of a record stands on in which the child is kept
abbrev pub ReadsChild : {D : Type 0} → Ghosts D → Records → D → D → List Proxy → Option PieceChild → Type 0
ReadsChild d records old new proxies (Some (Kept index member)) = (proxy : Proxy) × (slice_get proxies index ≡ Some proxy) × ReadsPiece d records old new (place_named proxy)
ReadsChild d records old new proxies _ = d.reads new ≤ d.reads old
