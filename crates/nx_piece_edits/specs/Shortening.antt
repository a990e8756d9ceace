-- A proxy found among roots or items, and the run that is one shorter without it.
use Rattle.std.specs.Prelude.{◌≡◌, ℕ, ◌+◌, ◌<◌, List, [], ◌∷◌, take, drop}
use Rattle.nx_piece.specs.declared.piece.Item.{Item}
use Rattle.nx_piece.specs.declared.piece.Item.TheVariants.{Tree, Run}
use Rattle.nx_piece.specs.Gapped.{Gapped, GappedTree, Grow, Gap, proxies_in, grown_of}
use Rattle.nx_piece.specs.Items.{gapped_of}
use Rattle.nx_piece_edits.specs.Cutting.{smaller_gap, without_proxy, with_items_at}

-- these trees, and others beside them
abbrev pub grown_before : List GappedTree → Gapped → Gapped
grown_before [] f = f
grown_before (t ∷ ts) f = Grow t.node t.below (grown_before ts f)

-- these items, and others beside them
abbrev pub items_before : List Item → Gapped → Gapped
items_before [] f = f
items_before (Tree t ∷ items) f = Grow t.node t.below (items_before items f)
items_before (Run count ∷ items) f = Gap count (items_before items f)

-- the proxy at an index stands below the root at a place, at another index among those there
pub record IsRootOf (roots : List GappedTree) (index : ℕ) (found : ℕ × ℕ) : Type 0 where
  pub root : GappedTree
  pub there : drop found.0 roots ≡ root ∷ drop (found.0 + 1) roots
  pub within : found.1 < proxies_in root.below
  pub same : without_proxy index (grown_of roots) ≡ grown_before (take found.0 roots) (without_proxy found.1 (grown_of (drop found.0 roots)))
  pub grows : (row : Gapped) → with_items_at index row (grown_of roots) ≡ grown_before (take found.0 roots) (with_items_at found.1 row (grown_of (drop found.0 roots)))

-- the proxy at an index stands in or below the item at a place, at another index among those there
pub record IsItemOf (items : List Item) (index : ℕ) (found : ℕ × ℕ) : Type 0 where
  pub item : Item
  pub there : drop found.0 items ≡ item ∷ drop (found.0 + 1) items
  pub within : found.1 < proxies_in (gapped_of (item ∷ []))
  pub same : without_proxy index (gapped_of items) ≡ items_before (take found.0 items) (without_proxy found.1 (gapped_of (drop found.0 items)))
  pub grows : (row : Gapped) → with_items_at index row (gapped_of items) ≡ items_before (take found.0 items) (with_items_at found.1 row (gapped_of (drop found.0 items)))

-- the run of so many proxies at a place is one shorter, or gone
abbrev pub WithoutRun : List Item → ℕ → ℕ → List Item → Type 0
WithoutRun items place count new = gapped_of new ≡ items_before (take place items) (smaller_gap count (gapped_of (drop (place + 1) items)))
