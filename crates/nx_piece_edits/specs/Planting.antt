-- A node or a proxy planted into a piece.
use Rattle.std.specs.Prelude.{◌≡◌, ℕ, zero, suc, ◌+◌, ◌-◌, ◌<◌, ◌≤◌, nat_le, nat_lt, if◌then◌else◌, List, [], ◌∷◌, ◌++◌, length, take, drop, Some}
use Rattle.std.specs.List.{slice_get}
use Rattle.nx_piece.specs.PieceNode.{MayBeFar, PieceNode, node_weight, item_slots}
use Rattle.nx_piece.specs.declared.piece.Piece.{Piece}
use Rattle.nx_piece.specs.declared.piece.Proxy.{Proxy}
use Rattle.nx_piece.specs.Gapped.{Gapped, GappedTree, End, Grow, Gap, gapped_width, gapped_size, gapped_weight, proxies_in, with_gap}
use Rattle.nx_piece.specs.Valid.{IsPiece, IsValidPiece}
use Rattle.nx_piece.specs.Locate.{PieceChild, Kept, Inside, roots_of, children_of, reached_in}
use Rattle.nx_piece_edits.specs.declared.falling.Fall.{Fall}
use Rattle.nx_piece_edits.specs.declared.falling.Fall.TheVariants as fall
use Rattle.nx_piece_edits.specs.Setting.{with_tree}

-- how many of these proxies stand before a position, each for as many children as it has roots
abbrev pub passed : ℕ → List Proxy → ℕ
passed position [] = 0
passed position (proxy ∷ proxies) = if nat_le proxy.roots position then 1 + passed (position - proxy.roots) proxies else 0

-- a gap of so many proxies, with something put behind the first of them
abbrev pub put_in_gap : (put : Gapped → Gapped) → (before count : ℕ) → Gapped → Gapped
put_in_gap put before count beside = with_gap before (put (Gap (count - before) beside))

-- Trees and gaps with something put before the child at a position. The proxies are those of the gaps; each stands for as many children as it has roots. It says something where the position falls between children of two proxies, or trees.
abbrev pub put_at : (put : Gapped → Gapped) → ℕ → Gapped → List Proxy → Gapped
put_at put zero f proxies = put f
put_at put (suc position) End proxies = End
put_at put (suc position) (Grow node below beside) proxies = Grow node below (put_at put position beside (drop (proxies_in below) proxies))
put_at put (suc position) (Gap count beside) proxies =
    if nat_lt (passed (suc position) (take count proxies)) count then put_in_gap put (passed (suc position) (take count proxies)) count beside
    else with_gap count (put_at put (suc position - roots_of (take count proxies)) beside (drop count proxies))

-- how many of the proxies of trees and gaps stand before the child at a position, those below trees among them
abbrev pub passed_at : ℕ → Gapped → List Proxy → ℕ
passed_at zero f proxies = 0
passed_at (suc position) End proxies = 0
passed_at (suc position) (Grow node below beside) proxies = proxies_in below + passed_at position beside (drop (proxies_in below) proxies)
passed_at (suc position) (Gap count beside) proxies =
    if nat_lt (passed (suc position) (take count proxies)) count then passed (suc position) (take count proxies)
    else count + passed_at (suc position - roots_of (take count proxies)) beside (drop count proxies)

-- a tree with something put among its children
abbrev pub put_below : (put : Gapped → Gapped) → ℕ → GappedTree → List Proxy → GappedTree
put_below put position tree proxies = record { node = tree.node; below = put_at put position tree.below proxies }

-- the position falls between two children, or before or behind all, and into no proxy's interval
pub record FallsApart (children : List PieceChild) (position : ℕ) : Type 0 where
  pub within : position ≤ length children
  pub apart : (index member : ℕ) → slice_get children position ≡ Some (Kept index member) → member ≡ 0

-- the answer says where a position falls among the children of a tree of the piece
abbrev pub FallsAt : Piece → GappedTree → (first position : ℕ) → Fall → Type 0
FallsAt piece tree first position (fall.Between index) =
    FallsApart (children_of piece.proxies first tree.below) position × (index ≡ first + passed_at position tree.below (drop first piece.proxies)) × (index ≤ length piece.proxies)
FallsAt piece tree first position (fall.Inside proxy index member) =
    (slice_get (children_of piece.proxies first tree.below) position ≡ Some (Kept index member)) × (1 ≤ member) × (slice_get piece.proxies index ≡ Some proxy)
FallsAt piece tree first position fall.Nowhere = length (children_of piece.proxies first tree.below) < position

-- the path leads to a tree of the piece, and the position falls between children of it
abbrev pub LeadsBetween : Piece → ℕ → List ℕ → ℕ → Type 0
LeadsBetween piece member path position =
    (tree : GappedTree) × (first : ℕ) × (reached_in piece member path ≡ Inside tree first) × FallsApart (children_of piece.proxies first tree.below) position

-- The node stands at the position below the one that the path leads to. A valid piece may be split then, where the node's item takes no more slots than a piece's may, and is valid where all of them take no more.
pub record IsWithNode (piece : Piece) (member : ℕ) (path : List ℕ) (position : ℕ) (node : PieceNode) (grown : Piece) : Type 0 where
  pub tree : GappedTree
  pub first : ℕ
  pub leads : reached_in piece member path ≡ Inside tree first
  pub body : grown.body.roots ≡ with_tree member path (put_below (λ f. Grow node End f) position tree (drop first piece.proxies)) piece.body.roots piece.proxies
  pub proxies : grown.proxies ≡ piece.proxies
  pub weighs : gapped_weight grown.body.roots ≡ gapped_weight piece.body.roots + node_weight node
  pub sized : gapped_size grown.body.roots ≡ gapped_size piece.body.roots + item_slots node
  pub large : IsValidPiece piece → MayBeFar node → item_slots node ≤ 256 → IsPiece grown
  pub valid : IsValidPiece piece → MayBeFar node → gapped_size grown.body.roots ≤ 256 → IsValidPiece grown

-- The proxy stands at the position below the node that the path leads to, and at the index among all.
pub record IsWithProxyAt (piece : Piece) (member : ℕ) (path : List ℕ) (position index : ℕ) (proxy : Proxy) (grown : Piece) : Type 0 where
  pub tree : GappedTree
  pub first : ℕ
  pub leads : reached_in piece member path ≡ Inside tree first
  pub body : grown.body.roots ≡ with_tree member path (put_below (λ f. with_gap 1 f) position tree (drop first piece.proxies)) piece.body.roots piece.proxies
  pub proxies : grown.proxies ≡ take index piece.proxies ++ proxy ∷ drop index piece.proxies
  pub weighs : gapped_weight grown.body.roots ≡ gapped_weight piece.body.roots
  pub sized : gapped_size grown.body.roots ≡ gapped_size piece.body.roots
  pub stays : 1 ≤ proxy.roots → proxy.roots ≤ 256 → length piece.proxies < 524288 → IsPiece grown
  pub valid : IsValidPiece piece → 1 ≤ proxy.roots → proxy.roots ≤ 256 → length piece.proxies < 524288 → IsValidPiece grown

-- The node is a root at the index. A valid piece may be split then, where the node's item takes no more slots than a piece's may, and is valid where all of them take no more and it has a place for one root more.
pub record IsWithRoot (piece : Piece) (member : ℕ) (node : PieceNode) (grown : Piece) : Type 0 where
  pub body : grown.body.roots ≡ put_at (λ f. Grow node End f) member piece.body.roots piece.proxies
  pub proxies : grown.proxies ≡ piece.proxies
  pub weighs : gapped_weight grown.body.roots ≡ gapped_weight piece.body.roots + node_weight node
  pub sized : gapped_size grown.body.roots ≡ gapped_size piece.body.roots + item_slots node
  pub width : gapped_width grown.body.roots ≡ gapped_width piece.body.roots + 1
  pub large : IsValidPiece piece → MayBeFar node → item_slots node ≤ 256 → IsPiece grown
  pub valid : IsValidPiece piece → MayBeFar node → gapped_size grown.body.roots ≤ 256 → gapped_width grown.body.roots ≤ 256 → IsValidPiece grown
