-- The items that bytes begin with.
use Rattle.std.specs.Prelude.{◌≡◌, ℕ, ◌+◌, ◌<◌, ◌≤◌, List, ◌++◌, Option, None, Some}
use Rattle.nx_piece.specs.PieceNode.{PieceNode, item_slots, MayBeFar, HasFarPage}
use Rattle.nx_piece.specs.Gapped.{Gapped, End, Grow, Gap, item_count, gapped_width, gapped_size, proxies_in}
use Rattle.nx_piece.specs.Encoding.{items_bytes}
use Rattle.nx_piece.specs.Flat.{seen_node}
use Rattle.nx_seek.specs.declared.items.Item.{Item}
use Rattle.nx_seek.specs.declared.items.Item.TheVariants.{Run, Node}

-- a node as a record may have one
pub record IsReadable (node : PieceNode) : Type 0 where
  pub small : item_slots node ≤ 256
  pub far : MayBeFar node
  pub page : HasFarPage node.far

-- trees and gaps whose numbers fit the fields of their items
abbrev pub AreReadable : Gapped → Type 0
AreReadable End = Unit {0}
AreReadable (Grow node below beside) = IsReadable node × (gapped_width below < 65536) × AreReadable below × AreReadable beside
AreReadable (Gap count beside) = (count < 4294967296) × AreReadable beside

-- the bytes begin with the items of f, which are as many as a record has and stand for as many proxies
pub record ItemsStandIn (bytes : List ℕ) (f : Gapped) (tail : List ℕ) : Type 0 where
  pub same : bytes ≡ items_bytes f ++ tail
  pub readable : AreReadable f
  pub few : item_count f ≤ 1000
  pub small : gapped_size f ≤ 256
  pub few_proxies : proxies_in f ≤ 524288

abbrev pub item_behind : Item → List ℕ
item_behind (Run count behind) = behind.now
item_behind (Node node items behind) = behind.now

-- f has no item
abbrev pub HasNoItem : Gapped → Type 0
HasNoItem End = Unit {0}
HasNoItem _ = ⊥

-- its first item is this run, and what stands behind that; nothing is said where it has none
abbrev pub BeginsWithRun : Gapped → (tail : List ℕ) (count : ℕ) (behind : List ℕ) → Type 0
BeginsWithRun End tail count behind = Unit {0}
BeginsWithRun (Grow n below beside) tail count behind = ⊥
BeginsWithRun (Gap c beside) tail count behind = (count ≡ c) × (behind ≡ items_bytes beside ++ tail)

-- its first item is this node, with so many child items
abbrev pub BeginsWithNode : Gapped → (tail : List ℕ) → PieceNode → (items : ℕ) (behind : List ℕ) → Type 0
BeginsWithNode End tail node items behind = Unit {0}
BeginsWithNode (Grow n below beside) tail node items behind = (node ≡ n) × (items ≡ gapped_width below) × (behind ≡ items_bytes below ++ (items_bytes beside ++ tail))
BeginsWithNode (Gap c beside) tail node items behind = ⊥

abbrev pub IsFirstItem : Gapped → (tail : List ℕ) → Option Item → Type 0
IsFirstItem f tail None = HasNoItem f
IsFirstItem f tail (Some (Run count behind)) = BeginsWithRun f tail count behind.now
IsFirstItem f tail (Some (Node node items behind)) = BeginsWithNode f tail (seen_node node) items behind.now

-- f without its first item, which stands for so many proxies and has so many child items: what is left of it, the items below that one first
pub record IsItemPassed (f : Gapped) (tail : List ℕ) (proxies below : ℕ) (behind : List ℕ) : Type 0 where
  pub left : Gapped
  pub stands : ItemsStandIn behind left tail
  pub wide : gapped_width left + 1 ≡ gapped_width f + below
  pub sum : proxies_in left + proxies ≡ proxies_in f
