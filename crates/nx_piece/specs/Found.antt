-- A child of a node as a walk finds it.
use Rattle.std.specs.Prelude.{◌≡◌, ℕ, ◌+◌, List, [], ◌∷◌, take, drop, Option, None, Some}
use Rattle.std.specs.List.{slice_get}
use Rattle.nx_piece.specs.declared.piece.Item.{Item}
use Rattle.nx_piece.specs.declared.piece.Item.TheVariants as item
use Rattle.nx_piece.specs.declared.piece.Proxy.{Proxy}
use Rattle.nx_piece.specs.declared.locating.FoundChild.{FoundChild}
use Rattle.nx_piece.specs.declared.locating.FoundChild.TheVariants.{Tree, Root}
use Rattle.nx_piece.specs.Gapped.{GappedTree, proxies_in}
use Rattle.nx_piece.specs.Items.{gapped_of}
use Rattle.nx_piece.specs.Locate.{PieceChild, Own, Kept, roots_of}

-- the child that was found
abbrev pub found_child : FoundChild → PieceChild
found_child (Tree tree first index) = Own tree.now first
found_child (Root index member) = Kept index member

-- what was found of children is the one at a position
abbrev pub IsFound : List PieceChild → ℕ → Option FoundChild → Type 0
IsFound children position None = slice_get children position ≡ None
IsFound children position (Some found) = slice_get children position ≡ Some (found_child found)

-- how many children these items stand for; the proxies are those of their runs
abbrev pub children_in : List Item → List Proxy → ℕ
children_in [] proxies = 0
children_in (item.Tree tree ∷ items) proxies = 1 + children_in items (drop (proxies_in tree.below) proxies)
children_in (item.Run count ∷ items) proxies = roots_of (take count proxies) + children_in items (drop count proxies)

-- The tree that a position leads to stands at an index of the items, behind as many children and proxies as those before it stand for.
pub record StandsAmong (items : List Item) (proxies : List Proxy) (first position : ℕ) (tree : GappedTree) (before index : ℕ) : Type 0 where
  pub there : drop index items ≡ item.Tree tree ∷ drop (index + 1) items
  pub counted : children_in (take index items) (drop first proxies) ≡ position
  pub behind : before ≡ first + proxies_in (gapped_of (take index items))

-- a tree that was found stands at its index
abbrev pub IsFoundAt : List Item → List Proxy → ℕ → ℕ → Option FoundChild → Type 0
IsFoundAt items proxies first position None = Unit {0}
IsFoundAt items proxies first position (Some (Root index member)) = Unit {0}
IsFoundAt items proxies first position (Some (Tree tree before index)) = StandsAmong items proxies first position tree.now before index
