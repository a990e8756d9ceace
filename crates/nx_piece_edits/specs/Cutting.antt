-- A tree taken out of a piece, and a proxy taken away or replaced.
use Rattle.std.specs.Prelude.{◌≡◌, ℕ, zero, suc, ◌+◌, ◌-◌, ◌≤◌, nat_lt, if◌then◌else◌, List, [], ◌∷◌, ◌++◌, length, take, drop, Option, None, Some}
use Rattle.nx_piece.specs.declared.piece.Piece.{Piece}
use Rattle.nx_piece.specs.declared.piece.Proxy.{Proxy}
use Rattle.nx_piece_edits.specs.declared.cutting.Removed.{Removed}
use Rattle.nx_piece.specs.Gapped.{Gapped, GappedTree, End, Grow, Gap, gapped_width, gapped_size, gapped_weight, proxies_in, with_gap}
use Rattle.nx_piece.specs.Locate.{Inside, roots_of, reached_in, IsPartOf}
use Rattle.nx_piece.specs.Valid.{AreFar, HaveRoots, IsPiece, IsValidPiece}

-- What is left of trees and gaps without the tree that a position and a path lead to. The proxies are those of the gaps; each stands for as many trees as it has roots.
abbrev pub without_tree : ℕ → List ℕ → Gapped → List Proxy → Gapped
without_tree position path End proxies = End
without_tree zero [] (Grow node below beside) proxies = beside
without_tree zero (next ∷ path) (Grow node below beside) proxies = Grow node (without_tree next path below proxies) beside
without_tree (suc position) path (Grow node below beside) proxies = Grow node below (without_tree position path beside (drop (proxies_in below) proxies))
without_tree position path (Gap count beside) proxies = with_gap count (without_tree (position - roots_of (take count proxies)) path beside (drop count proxies))

-- a gap that stands for one proxy less
abbrev pub smaller_gap : ℕ → Gapped → Gapped
smaller_gap count beside = if nat_lt 1 count then Gap (count - 1) beside else beside

-- What is left of trees and gaps without the proxy at an index. A gap that stood for it alone goes; what stands at its sides are trees.
abbrev pub without_proxy : ℕ → Gapped → Gapped
without_proxy index End = End
without_proxy index (Grow node below beside) =
    if nat_lt index (proxies_in below) then Grow node (without_proxy index below) beside else Grow node below (without_proxy (index - proxies_in below) beside)
without_proxy index (Gap count beside) = if nat_lt index count then smaller_gap count beside else Gap count (without_proxy (index - count) beside)

-- so many proxies more in front, if any; gaps that become neighbours are one
abbrev pub gap_before : ℕ → Gapped → Gapped
gap_before zero f = f
gap_before (suc count) f = with_gap (suc count) f

-- trees and gaps with others beside them; gaps that become neighbours are one
abbrev pub joined_items : Gapped → Gapped → Gapped
joined_items End last = last
joined_items (Grow node below beside) last = Grow node below (joined_items beside last)
joined_items (Gap count beside) last = with_gap count (joined_items beside last)

-- Trees and gaps with others in the place of the proxy at an index, whose gap is divided around them.
abbrev pub with_items_at : (index : ℕ) (items : Gapped) → Gapped → Gapped
with_items_at index items End = End
with_items_at index items (Grow node below beside) =
    if nat_lt index (proxies_in below) then Grow node (with_items_at index items below) beside else Grow node below (with_items_at (index - proxies_in below) items beside)
with_items_at index items (Gap had beside) =
    if nat_lt index had then gap_before index (joined_items items (gap_before (had - 1 - index) beside)) else Gap had (with_items_at (index - had) items beside)

-- Trees and gaps with so many proxies in the place of the one at an index.
abbrev pub with_row : (index count : ℕ) → Gapped → Gapped
with_row index count End = End
with_row index count (Grow node below beside) =
    if nat_lt index (proxies_in below) then Grow node (with_row index count below) beside else Grow node below (with_row (index - proxies_in below) count beside)
with_row index count (Gap had beside) = if nat_lt index had then Gap (had - 1 + count) beside else Gap had (with_row (index - had) count beside)

-- The tree that the path leads to is taken out, with the proxies of its gaps. The rest of a valid piece is one where a root is left.
pub record IsWithoutTree (piece : Piece) (member : ℕ) (path : List ℕ) (removed : Removed) : Type 0 where
  pub first : ℕ
  pub leads : reached_in piece member path ≡ Inside removed.tree first
  pub part : IsPartOf piece removed.tree first
  pub body : removed.rest.body.roots ≡ without_tree member path piece.body.roots piece.proxies
  pub taken : removed.proxies ≡ take (proxies_in removed.tree.below) (drop first piece.proxies)
  pub left : removed.rest.proxies ≡ take first piece.proxies ++ drop (first + proxies_in removed.tree.below) piece.proxies
  pub valid : IsValidPiece piece → 1 ≤ gapped_width removed.rest.body.roots → IsValidPiece removed.rest

-- the tree was taken out, or the path leads to no tree of the piece
abbrev pub IsTreeRemoved : Piece → ℕ → List ℕ → Option Removed → Type 0
IsTreeRemoved piece member path None = (tree : GappedTree) (first : ℕ) → reached_in piece member path ≡ Inside tree first → ⊥
IsTreeRemoved piece member path (Some removed) = IsWithoutTree piece member path removed

-- the proxy at an index is taken away, and its gap stands for one less
pub record IsWithoutProxy (piece : Piece) (index : ℕ) (rest : Piece) : Type 0 where
  pub body : rest.body.roots ≡ without_proxy index piece.body.roots
  pub proxies : rest.proxies ≡ take index piece.proxies ++ drop (index + 1) piece.proxies
  pub valid : IsValidPiece piece → IsValidPiece rest

-- the proxy at an index is replaced by another one
pub record IsWithProxy (piece : Piece) (index : ℕ) (proxy : Proxy) (changed : Piece) : Type 0 where
  pub body : changed.body ≡ piece.body
  pub proxies : changed.proxies ≡ take index piece.proxies ++ proxy ∷ drop (index + 1) piece.proxies
  pub valid : IsValidPiece piece → 1 ≤ proxy.roots → proxy.roots ≤ 256 → IsValidPiece changed

-- The proxy at an index is replaced by items, and by the proxies of their gaps. A valid piece may be split then, where the items take no more slots than a piece's may, and is valid where all of them take no more.
pub record IsWithItems (piece : Piece) (index : ℕ) (items : Gapped) (proxies : List Proxy) (changed : Piece) : Type 0 where
  pub body : changed.body.roots ≡ with_items_at index items piece.body.roots
  pub proxies_are : changed.proxies ≡ take index piece.proxies ++ proxies ++ drop (index + 1) piece.proxies
  pub weighs : gapped_weight changed.body.roots ≡ gapped_weight piece.body.roots + gapped_weight items
  pub sized : gapped_size changed.body.roots ≡ gapped_size piece.body.roots + gapped_size items
  pub width : gapped_width changed.body.roots ≡ gapped_width piece.body.roots
  pub large : IsValidPiece piece → AreFar items → HaveRoots proxies → length piece.proxies + length proxies ≤ 524289 → gapped_size items ≤ 256 → IsPiece changed
  pub valid : IsValidPiece piece → AreFar items → HaveRoots proxies → length piece.proxies + length proxies ≤ 524289 → gapped_size changed.body.roots ≤ 256 → IsValidPiece changed

-- the proxy at an index is replaced by a row of others
pub record IsWithRow (piece : Piece) (index : ℕ) (row : List Proxy) (changed : Piece) : Type 0 where
  pub body : changed.body.roots ≡ with_row index (length row) piece.body.roots
  pub proxies : changed.proxies ≡ take index piece.proxies ++ row ++ drop (index + 1) piece.proxies
  pub valid : IsValidPiece piece → HaveRoots row → length piece.proxies + length row ≤ 524289 → IsValidPiece changed
