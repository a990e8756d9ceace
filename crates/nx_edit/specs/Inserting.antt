-- A node put into a document, and why it isn't.
use Rattle.std.specs.Prelude.{◌≡◌, ℕ, ◌++◌, true, false, Bool, List, [], ◌∷◌, length, Option, Some, option_and_then}
use Rattle.std.specs.Option.{option_map_or, option_or}
use Rattle.nx_tree.specs.declared.node.Node.{Node}
use Rattle.nx_tree.specs.Forest.{OrderedTree, trees_of}
use Rattle.nx_tree.specs.Edit.{at, place_refusal, insert_refusal}
use Rattle.nx_nav.specs.declared.finding.Outlined.{Outlined}
use Rattle.nx_edit.specs.declared.error.EditError.{EditError}
use Rattle.nx_edit.specs.declared.error.EditError.TheVariants as error
use Rattle.nx_edit.specs.Refusals.{refused_by}
use Rattle.nx_edit.specs.Retexting.{outweighs}

-- why the node can't be put at the path of a document whose parts weigh k at most, the first reason that applies
abbrev pub insertion_fault : Node → (path : List ℕ) (k : ℕ) → OrderedTree → Option EditError
insertion_fault node path k t = option_or (option_and_then refused_by (insert_refusal node path t)) (outweighs k node)

-- whether `insert` refuses a path or a node for this reason
abbrev pub is_of_insertion : EditError → Bool
is_of_insertion error.NoNode = true
is_of_insertion error.BadPlace = true
is_of_insertion error.Twice = true
is_of_insertion error.TooDeep = true
is_of_insertion error.TooMany = true
is_of_insertion (error.TooHeavy heavy) = true
is_of_insertion _ = false

-- why the node may not stand at that position below the node at a path
abbrev pub place_fault : Node → (position : ℕ) (parent : List ℕ) → OrderedTree → Option EditError
place_fault node position parent tree = option_map_or (λ t. option_and_then refused_by (place_refusal node position t)) (at tree parent) (Some error.NoNode)

-- a node of this kind and name stands at that position below the node at a path
abbrev pub IsChild : OrderedTree → (parent : List ℕ) (position : ℕ) → Outlined → Type 0
IsChild tree parent position seen = (t : OrderedTree) × (at tree (parent ++ position ∷ []) ≡ Some t) × (seen.kind ≡ t.node.kind) × (seen.name ≡ t.node.name)

-- of the node at a path, if it has so many children
abbrev pub OfParent : OrderedTree → (parent : List ℕ) (children : ℕ) → (OrderedTree → Type 0) → Type 0
OfParent tree parent children P = (t : OrderedTree) → at tree parent ≡ Some t → children ≡ length (trees_of t.below) → P t
