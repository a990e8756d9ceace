-- What a builder has made of the lines that it took.
use Rattle.std.specs.Prelude.{if◌then◌else◌, nat_le, ◌≡◌, ℕ, Bool, false, ◌+◌, ◌*◌, ◌≤◌, IsTrue, List, [], ◌∷◌, ◌++◌, length, Option, None, Some, IfSome, is_some, option_map}
use Rattle.nx_tree.specs.declared.node.Node.{Node}
use Rattle.nx_tree.specs.Forest.{Forest, Empty, Plant, planted}
use Rattle.nx_tree.specs.Document.{IsNode, is_element, is_name, longest_node, most_nodes, deepest}
use Rattle.nx_pyx.specs.declared.builder.Level.{Level}
use Rattle.nx_pyx.specs.declared.builder.Builder.{Builder}
use Rattle.nx_pyx.specs.declared.error.PyxError.{PyxError}
use Rattle.nx_pyx.specs.declared.error.PyxFault.{PyxFault}
use Rattle.nx_pyx.specs.declared.error.PyxFault.TheVariants.{TooDeep, TooMany}
use Rattle.nx_pyx.specs.declared.error.ReadError.{ReadError}
use Rattle.nx_pyx.specs.declared.error.ReadError.TheVariants.{Pyx, Memory}
use Rattle.nx_pyx.specs.Event.{Event, Start, events}
use Rattle.nx_pyx.specs.Fault.{Standing, standing, events_of, fault_at_standing, first_fault, fault_at}
use Rattle.nx_pyx.specs.Names.{HoldsNames}

-- the events before what is open innermost, the outermost level first
abbrev pub level_events : List Level → List Event
level_events [] = []
level_events (level ∷ levels) = events level.before ++ Start level.name ∷ level_events levels

-- the names of the open elements before those of the second list, the innermost first
abbrev pub open_names_over : List Level → List (List ℕ) → List (List ℕ)
open_names_over [] names = names
open_names_over (level ∷ levels) names = open_names_over levels (level.name ∷ names)

-- Each node, at every depth, is one of a document, and only elements have something below them.
abbrev pub IsBuilt : Forest → Type 0
IsBuilt Empty = Unit {0}
IsBuilt (Plant node below beside) = IsNode node × (is_element node.kind ≡ false → below ≡ Empty) × IsBuilt below × IsBuilt beside

-- each level has a name of an element, and trees before it
abbrev pub AreLevels : List Level → Type 0
AreLevels [] = Unit {0}
AreLevels (level ∷ levels) = IsTrue (is_name level.name) × (length level.name ≤ longest_node) × IsBuilt level.before × AreLevels levels

-- what stands where these levels are open
abbrev pub standing_at : List Level → Bool → ℕ → Option (List (List ℕ)) → Standing
standing_at levels rooted nodes attributes = record { open_names = open_names_over levels []; rooted = rooted; nodes = nodes; attributes = attributes }

-- These levels and these children of the innermost element are what the events make.
pub record IsMade (levels : List Level) (children : Forest) (rooted : Bool) (nodes : ℕ) (attributes : Option (List (List ℕ))) (es : List Event) : Type 0 where
  pub says : es ≡ level_events levels ++ events children
  pub stands : standing es ≡ standing_at levels rooted nodes attributes
  pub levels_formed : AreLevels levels
  pub children_formed : IsBuilt children
  pub few : length es + length levels + 2 ≤ 2 * nodes
  pub within : nodes ≤ most_nodes

-- the builder knows these names of attributes, or that none may come
pub record Knows (builder : Builder) (attributes : Option (List (List ℕ))) : Type 0 where
  pub may_come : is_some attributes ≡ builder.may_have
  pub holds : IfSome attributes (HoldsNames builder.attributes)

-- The builder has taken these lines, and none of them is faulty.
pub record HasBuilt (builder : Builder) (ls : List (List ℕ)) : Type 0 where
  pub sound : first_fault [] ls ≡ None
  pub attributes : Option (List (List ℕ))
  pub known : Knows builder attributes
  pub made : IsMade builder.levels.items builder.children builder.rooted builder.nodes attributes (events_of ls)
  pub each : length (events_of ls) ≡ length ls
  pub counted : builder.lines ≡ length ls

-- what stands at the builder
abbrev pub standing_of : Builder → Option (List (List ℕ)) → Standing
standing_of builder attributes = standing_at builder.levels.items builder.rooted builder.nodes attributes

-- The event has no fault there, and the new builder is the old one after it.
pub record Makes (old new : Builder) (e : Event) : Type 0 where
  pub fine : (attributes : Option (List (List ℕ))) → Knows old attributes → fault_at_standing (standing_of old attributes) e ≡ None
  pub made : (es : List Event) (attributes : Option (List (List ℕ))) → Knows old attributes → IsMade old.levels.items old.children old.rooted old.nodes attributes es →
      (next : Option (List (List ℕ))) × Knows new next × IsMade new.levels.items new.children new.rooted new.nodes next (es ++ e ∷ [])
  pub lines : new.lines ≡ old.lines

-- this error comes where that fault is
abbrev pub Fails : ReadError → Option PyxError → Type 0
Fails (Pyx error) found = found ≡ Some error
Fails Memory found = Unit {0}

-- this error comes where the event is refused at the builder
abbrev pub RefusesEvent : Builder → ℕ → Event → ReadError → Type 0
RefusesEvent builder n e error = (attributes : Option (List (List ℕ))) → Knows builder attributes → Fails error (option_map (fault_at n) (fault_at_standing (standing_of builder attributes) e))

-- The new builder is the old one with one node more among the children of the innermost element.
pub record Pushes (old new : Builder) (node : Node) : Type 0 where
  pub levels : new.levels ≡ old.levels
  pub children : new.children ≡ planted old.children (record { node = node; below = Empty })
  pub rooted : new.rooted ≡ old.rooted
  pub nodes : new.nodes ≡ old.nodes + 1
  pub may_have : new.may_have ≡ old.may_have
  pub attributes : new.attributes ≡ old.attributes
  pub lines : new.lines ≡ old.lines

-- The next node would lie too deep, or else be one too many, and the error says so.
pub record HasNoRoom (builder : Builder) (error : ReadError) : Type 0 where
  pub fault : PyxFault
  pub says : error ≡ Pyx (fault_at builder.lines fault)
  pub is : (if nat_le deepest (length builder.levels.items) then Some TooDeep else if nat_le most_nodes builder.nodes then Some TooMany else None) ≡ Some fault
