-- What is done with a node at the end of a path, and where it is done among its items.
use Rattle.std.specs.Prelude.{◌≡◌, ℕ, ◌+◌, ◌<◌, ◌≤◌, List, ◌∷◌, length, take, drop, Option}
use Rattle.nx_piece.specs.declared.piece.Item.{Item}
use Rattle.nx_piece.specs.declared.piece.Item.TheVariants.{Run}
use Rattle.nx_piece.specs.declared.piece.Proxy.{Proxy}
use Rattle.nx_piece.specs.Gapped.{Gapped, GappedTree, End, Grow, with_gap}
use Rattle.nx_piece.specs.Items.{gapped_of, with_items}
use Rattle.nx_piece.specs.Locate.{PieceChild, Inside, children_of, reached}
use Rattle.nx_piece_edits.specs.declared.setting.NodeEdit.{NodeEdit}
use Rattle.nx_piece_edits.specs.declared.setting.NodeEdit.TheVariants.{Content, Leaf, OneProxy}
use Rattle.nx_piece_edits.specs.Setting.{with_content}
use Rattle.nx_piece_edits.specs.Planting.{put_in_gap, put_at, put_below, FallsApart}

-- the tree with it done; the proxies are those of its gaps
abbrev pub node_edited : NodeEdit → GappedTree → List Proxy → GappedTree
node_edited (Content content far) tree proxies = with_content content far tree
node_edited (Leaf position node far) tree proxies = put_below (λ f. Grow (record { node = node; far = far }) End f) position tree proxies
node_edited (OneProxy position) tree proxies = put_below (λ f. with_gap 1 f) position tree proxies

-- where something is planted, it falls between children
abbrev pub HasPlace : NodeEdit → List PieceChild → Type 0
HasPlace (Content content far) children = Unit {0}
HasPlace (Leaf position node far) children = FallsApart children position
HasPlace (OneProxy position) children = FallsApart children position

-- it may take memory
abbrev pub MayGrow : NodeEdit → Type 0
MayGrow (Content content far) = ⊥
MayGrow (Leaf position node far) = Unit {0}
MayGrow (OneProxy position) = Unit {0}

-- the path leads to a tree with a place for it
abbrev pub LeadsToPlace : List Proxy → List ℕ → Option PieceChild → NodeEdit → Type 0
LeadsToPlace proxies path child edit =
    (target : GappedTree) × (before used : ℕ) × (reached proxies used path child ≡ Inside target before) × HasPlace edit (children_of proxies before target.below)

-- at the index stands a run of more proxies
abbrev pub HasLongerRun : List Item → (index before : ℕ) → Type 0
HasLongerRun items index before = (count : ℕ) × (drop index items ≡ Run count ∷ drop (index + 1) items) × (before < count)

-- The position leads to an index of the items, into a run there behind so many of its proxies, if any: what is put at the position is put there.
pub record IsSpot (items : List Item) (proxies : List Proxy) (position index before : ℕ) : Type 0 where
  pub within : index ≤ length items
  pub longer : 1 ≤ before → HasLongerRun items index before
  pub front : before ≡ 0 → (put : Gapped → Gapped) → put_at put position (gapped_of items) proxies ≡ with_items (take index items) (put (gapped_of (drop index items)))
  pub inside : (count : ℕ) → 1 ≤ before → drop index items ≡ Run count ∷ drop (index + 1) items → (put : Gapped → Gapped)
      → put_at put position (gapped_of items) proxies ≡ with_items (take index items) (put_in_gap put before count (gapped_of (drop (index + 1) items)))
