-- The children of a node, as they are found in the bytes of a record.
use Rattle.std.specs.Prelude.{◌≡◌, ℕ, ◌+◌, ◌≤◌, List, length, take, drop, Option, None, Some}
use Rattle.std.specs.List.{slice_get}
use Rattle.nx_piece.specs.declared.piece.Proxy.{Proxy}
use Rattle.nx_piece.specs.Gapped.{Gapped, GappedTree, gapped_width, proxies_in}
use Rattle.nx_piece.specs.Encoding.{proxies_bytes}
use Rattle.nx_piece.specs.Flat.{seen_node}
use Rattle.nx_piece.specs.Locate.{Own, Kept, kept_from, children_of}
use Rattle.nx_piece.specs.Valid.{HaveRoots, HaveNumbers}
use Rattle.nx_seek.specs.Items.{ItemsStandIn}
use Rattle.nx_seek.specs.declared.children.Child.{Child}
use Rattle.nx_seek.specs.declared.children.Child.TheVariants as child
use Rattle.nx_seek.specs.declared.children.Member.{Member}
use Rattle.nx_seek.specs.declared.children.Member.TheVariants as member
use Rattle.nx_seek.specs.declared.children.Spot.{Spot}
use Rattle.nx_seek.specs.declared.children.Step.{Step}
use Rattle.nx_seek.specs.declared.children.Step.TheVariants as step

-- the bytes are those of these proxies
pub record AreProxies (bytes : List ℕ) (proxies : List Proxy) : Type 0 where
  pub same : bytes ≡ proxies_bytes proxies
  pub ranged : HaveRoots proxies
  pub numbers : HaveNumbers proxies
  pub few : length proxies ≤ 524288

-- what was found at a position among the roots of so many of the proxies, from one on
abbrev pub IsMember : List Proxy → (first count position : ℕ) → Option Member → Type 0
IsMember proxies first count position None = ⊥
IsMember proxies first count position (Some (member.Root proxy index root)) =
    (slice_get (kept_from first (take count (drop first proxies))) position ≡ Some (Kept index root)) × (slice_get proxies index ≡ Some proxy)
IsMember proxies first count position (Some (member.Behind left)) = position ≡ length (kept_from first (take count (drop first proxies))) + left

-- the node stands there with what is below it, with so many proxies before its own items
pub record IsSpotOf (spot : Spot) (tree : GappedTree) : Type 0 where
  pub node : seen_node spot.node ≡ tree.node
  pub wide : gapped_width tree.below ≡ spot.items
  pub tail : List ℕ
  pub stands : ItemsStandIn spot.behind.now tree.below tail

-- what was found at a position among these items, before which so many of the proxies stand
abbrev pub IsChildFound : List Proxy → (first : ℕ) → Gapped → (position : ℕ) → Child → Type 0
IsChildFound proxies first f position (child.Tree spot) = (tree : GappedTree) × (slice_get (children_of proxies first f) position ≡ Some (Own tree spot.first)) × IsSpotOf spot tree
IsChildFound proxies first f position (child.Root proxy index root) = (slice_get (children_of proxies first f) position ≡ Some (Kept index root)) × (slice_get proxies index ≡ Some proxy)
IsChildFound proxies first f position (child.Behind left) = position ≡ length (children_of proxies first f) + left

-- so many proxies and positions are passed, and the items of the rest are left
pub record ChildrenGoOn (proxies : List Proxy) (first position : ℕ) (all : Gapped) (before left : ℕ) (rest : Gapped) : Type 0 where
  pub same : slice_get (children_of proxies first all) position ≡ slice_get (children_of proxies before rest) left
  pub sum : position + length (children_of proxies before rest) ≡ length (children_of proxies first all) + left
  pub fits : before + proxies_in rest ≡ first + proxies_in all

-- one item is passed
pub record IsOneOn (proxies : List Proxy) (first position : ℕ) (all : Gapped) (tail : List ℕ) (before left : ℕ) (behind : List ℕ) : Type 0 where
  pub rest : Gapped
  pub stands : ItemsStandIn behind rest tail
  pub on : ChildrenGoOn proxies first position all before left rest
  pub wide : gapped_width all ≡ 1 + gapped_width rest

abbrev pub IsStep : List Proxy → (first position : ℕ) → Gapped → (tail : List ℕ) → Option Step → Type 0
IsStep proxies first position f tail None = ⊥
IsStep proxies first position f tail (Some (step.Found found)) = IsChildFound proxies first f position found
IsStep proxies first position f tail (Some (step.On behind before left)) = IsOneOn proxies first position f tail before left behind.now
