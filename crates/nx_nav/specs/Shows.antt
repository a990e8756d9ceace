-- What is shown of a node.
use Rattle.std.specs.Prelude.{◌≡◌, ◌++◌, ℕ, false, List, [], ◌∷◌, length, Option, Some, option_map}
use Rattle.nx_records.specs.Words.{Held}
use Rattle.nx_tree.specs.declared.node.Kind.{Kind}
use Rattle.nx_tree.specs.Forest.{OrderedTree, trees_of}
use Rattle.nx_tree.specs.Edit.{at, has_children}
use Rattle.nx_piece.specs.PieceNode.{PieceNode, content_length}
use Rattle.nx_layouts.specs.Layout.{shown_with, IsReadIn}
use Rattle.nx_nav.specs.Nodes.{CanBe, CanBeWith}
use Rattle.nx_nav.specs.declared.finding.Shown.{Shown}
use Rattle.nx_nav.specs.declared.finding.Outlined.{Outlined}
use Rattle.nx_nav.specs.declared.finding.Found.{Found}

-- the node at the end of the path, and how many children it has
abbrev pub ShowsNode : OrderedTree → List ℕ → Shown → Type 0
ShowsNode tree path shown = (t : OrderedTree) × (at tree path ≡ Some t) × (shown.node ≡ t.node) × (shown.children ≡ length (trees_of t.below))

-- which kind the child at that position has, below the node at the path; none where there is no such child
abbrev pub kind_below : OrderedTree → (path : List ℕ) (position : ℕ) → Option Kind
kind_below tree path position = option_map (λ t. t.node.kind) (at tree (path ++ position ∷ []))

-- a document may have the node at this depth, with children where it has some
abbrev pub CanBeShown : ℕ → Shown → Type 0
CanBeShown depth shown = CanBe depth shown.node × (has_children shown.node.kind ≡ false → shown.children ≡ 0)

-- the same of a node without its content, of which it is said how long it is
abbrev pub OutlinesNode : OrderedTree → List ℕ → Outlined → Type 0
OutlinesNode tree path seen =
    (t : OrderedTree) × (at tree path ≡ Some t) × (seen.kind ≡ t.node.kind) × (seen.name ≡ t.node.name) × (seen.content ≡ length t.node.content) × (seen.children ≡ length (trees_of t.below))

abbrev pub CanBeOutlined : ℕ → Outlined → Type 0
CanBeOutlined depth seen = CanBeWith depth seen.kind seen.name seen.content × (has_children seen.kind ≡ false → seen.children ≡ 0)

-- the node that was found, as its record has it
abbrev pub found_node : Found → PieceNode
found_node found = record { node = found.node; far = found.far }

-- what was found is the node at the end of the path, whose content stands in its item or in a list of those that are held
abbrev pub FindsNode : Held → OrderedTree → List ℕ → Found → Type 0
FindsNode now tree path found =
    (t : OrderedTree) × (at tree path ≡ Some t) × (found.children ≡ length (trees_of t.below))
    × ((list : Option ℕ) × (found_node found ≡ shown_with t.node list) × IsReadIn now.lists (record { node = t.node; list = list }))

abbrev pub CanBeFound : ℕ → Found → Type 0
CanBeFound depth found = CanBeWith depth found.node.kind found.node.name (content_length (found_node found)) × (has_children found.node.kind ≡ false → found.children ≡ 0)
