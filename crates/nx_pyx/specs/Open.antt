-- What stands after some events, told of the whole list of them.
use Rattle.std.specs.Prelude.{◌≡◌, ℕ, Bool, true, false, IsTrue, List, [], ◌∷◌, ◌++◌, map, reverse}
use Rattle.std.specs.List.{list_all}
use Rattle.nx_tree.specs.Forest.{Forest}
use Rattle.nx_tree.specs.Document.{is_attribute}
use Rattle.nx_tree.specs.declared.node.Node.{Node}
use Rattle.nx_pyx.specs.Event.{Event, Start, Single, events}

-- The elements of these names are open, the innermost first: with none of them the events are those of whole trees, and else they are what comes before the innermost one, its start, and those of whole trees.
abbrev pub OpenAre : List (List ℕ) → List Event → Type 0
OpenAre [] es = (trees : Forest) × (es ≡ events trees)
OpenAre (name ∷ names) es = (before : List Event) × OpenAre names before × (trees : Forest) × (es ≡ before ++ Start name ∷ events trees)

-- an element starts
abbrev pub is_start : Event → Bool
is_start (Start name) = true
is_start _ = false

-- The events end with the start of an element and attributes alone, which have these names, the last one first.
pub record EndWithAttributes (es : List Event) (names : List (List ℕ)) : Type 0 where
  pub before : List Event
  pub element : List ℕ
  pub attributes : List Node
  pub ends : es ≡ before ++ Start element ∷ map (λ node. Single node) attributes
  pub alone : IsTrue (list_all (λ node. is_attribute node.kind) attributes)
  pub named : names ≡ reverse (map (λ node. node.name) attributes)
