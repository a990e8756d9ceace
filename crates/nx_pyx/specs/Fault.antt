-- The fault of a stream: that of its first faulty line, or that of its end.
use Rattle.std.specs.Prelude.{ℕ, ◌+◌, Bool, true, false, not, ◌&&◌, ◌==◌, nat_le, nat_lt, if◌then◌else◌, List, [], ◌∷◌, ◌++◌, length, drop, fold, Option, None, Some, unwrap_or}
use Rattle.std.specs.List.{filter_map, list_any}
use Rattle.std.specs.Option.{option_map_or, option_map, is_none}
use Rattle.std.specs.Str.{bytes_eq}
use Rattle.nx_tree.specs.Document.{deepest, most_nodes, longest_node, is_name, is_attribute}
use Rattle.nx_tree.specs.declared.node.Kind.{Kind}
use Rattle.nx_tree.specs.declared.node.Kind.TheVariants.{Text}
use Rattle.nx_tree.specs.declared.node.Node.{Node}
use Rattle.nx_pyx.specs.declared.error.PyxFault.{PyxFault}
use Rattle.nx_pyx.specs.declared.error.PyxFault.TheVariants.{BadCode, BadName, BadNesting, BadAttribute, Twice, Unclosed, Empty, LongLine, TooDeep, TooMany}
use Rattle.nx_pyx.specs.declared.error.PyxError.{PyxError}
use Rattle.nx_pyx.specs.Lines.{lines, ended_lines, cut, without_cr}
use Rattle.nx_pyx.specs.Event.{Event, Start, End, Single, event_by, event_of}

-- What stands after some events: the names of the elements that are open, the innermost first, whether an element has come, how many nodes there are, the document's root counted, and, where an attribute of the innermost element may come next, the names of those that it has.
pub record Standing : Type 0 where
  pub open_names : List (List ℕ)
  pub rooted : Bool
  pub nodes : ℕ
  pub attributes : Option (List (List ℕ))

-- before the first event
abbrev pub at_first : Standing
at_first = record { open_names = []; rooted = false; nodes = 1; attributes = None }

-- the names of attributes after one node more
abbrev pub attributes_after : Node → Option (List (List ℕ)) → Option (List (List ℕ))
attributes_after node names = if is_attribute node.kind then option_map (λ ns. node.name ∷ ns) names else None

abbrev pub standing_after : Standing → Event → Standing
standing_after s (Start name) = record { open_names = name ∷ s.open_names; rooted = true; nodes = s.nodes + 1; attributes = Some [] }
standing_after s (End name) = record { open_names = drop 1 s.open_names; rooted = s.rooted; nodes = s.nodes; attributes = None }
standing_after s (Single node) = record { open_names = s.open_names; rooted = s.rooted; nodes = s.nodes + 1; attributes = attributes_after node s.attributes }

-- what stands after these events
abbrev pub standing : List Event → Standing
standing es = fold standing_after at_first es

-- nothing is open
abbrev pub is_outside : Standing → Bool
is_outside s = length s.open_names == 0

-- the innermost open element has this name
abbrev pub is_innermost : List ℕ → List (List ℕ) → Bool
is_innermost name [] = false
is_innermost name (open_name ∷ names) = bytes_eq name open_name

abbrev pub is_text : Kind → Bool
is_text Text = true
is_text _ = false

-- the bytes of name and content
abbrev pub event_size : Event → ℕ
event_size (Start name) = length name
event_size (End name) = length name
event_size (Single node) = length node.name + length node.content

-- more than are allowed
abbrev pub is_long : Event → Bool
is_long e = nat_lt longest_node (event_size e)

-- the name that a start, an attribute or an instruction has isn't one
abbrev pub is_misnamed : Event → Bool
is_misnamed (Start name) = not (is_name name)
is_misnamed (End name) = false
is_misnamed (Single node) = not (is_text node.kind) && not (is_name node.name)

-- a start beside the root element, an end of no open element, or a text outside
abbrev pub is_misplaced_event : Standing → Event → Bool
is_misplaced_event s (Start name) = is_outside s && s.rooted
is_misplaced_event s (End name) = not (is_innermost name s.open_names)
is_misplaced_event s (Single node) = is_text node.kind && is_outside s

-- an attribute where none may come
abbrev pub is_late : Standing → Event → Bool
is_late s (Single node) = is_attribute node.kind && is_none s.attributes
is_late s _ = false

-- one of the names is this one
abbrev pub is_among : List ℕ → List (List ℕ) → Bool
is_among name names = list_any (bytes_eq name) names

-- an attribute of a name that the element has
abbrev pub is_repeated_event : Standing → Event → Bool
is_repeated_event s (Single node) = is_attribute node.kind && is_among node.name (unwrap_or s.attributes [])
is_repeated_event s _ = false

-- it makes a node
abbrev pub makes_node : Event → Bool
makes_node (End name) = false
makes_node _ = true

-- a node that would lie too deep
abbrev pub is_deep : Standing → Event → Bool
is_deep s e = makes_node e && nat_le deepest (length s.open_names)

-- a node that would be one too many
abbrev pub is_surplus : Standing → Event → Bool
is_surplus s e = makes_node e && nat_le most_nodes s.nodes

-- the fault of an event that comes where this stands: the first that applies
abbrev pub fault_at_standing : Standing → Event → Option PyxFault
fault_at_standing s e =
    if is_long e then Some LongLine
    else if is_misnamed e then Some BadName
    else if is_misplaced_event s e then Some BadNesting
    else if is_late s e then Some BadAttribute
    else if is_repeated_event s e then Some Twice
    else if is_deep s e then Some TooDeep
    else if is_surplus s e then Some TooMany
    else None

-- the events of the lines that have one
abbrev pub events_of : List (List ℕ) → List Event
events_of ls = filter_map event_of ls

-- the fault of a line that comes after these lines
abbrev pub line_fault : List (List ℕ) → List ℕ → Option PyxFault
line_fault before line = option_map_or (fault_at_standing (standing (events_of before))) (event_of line) (Some BadCode)

abbrev pub fault_at : ℕ → PyxFault → PyxError
fault_at n fault = record { line = n; fault = fault }

-- the fault of the first faulty line among the second ones, which come after the first ones
abbrev pub first_fault : List (List ℕ) → List (List ℕ) → Option PyxError
first_fault before [] = None
first_fault before (line ∷ rest) =
    option_map_or (λ fault. Some (fault_at (length before + 1) fault)) (line_fault before line) (first_fault (before ++ line ∷ []) rest)

-- the fault of the end of a stream without a faulty line
abbrev pub end_fault : Standing → Option PyxFault
end_fault s = if is_outside s then (if s.rooted then None else Some Empty) else Some Unclosed

-- the fault that a line shows before it has ended: no code in front, or too many bytes already
abbrev pub early_fault : List ℕ → Option PyxFault
early_fault [] = None
early_fault (b ∷ bytes) =
    option_map_or (λ _. option_map_or (λ e. if is_long e then Some LongLine else None) (event_of (without_cr (b ∷ bytes))) None) (event_by b []) (Some BadCode)

-- The fault that the bytes so far show: that of the first faulty line that an LF ends, or else that of the line that hasn't ended.
abbrev pub shown_fault : List ℕ → Option PyxError
shown_fault bytes =
    option_map_or (λ e. Some e) (first_fault [] (ended_lines bytes)) (option_map (fault_at (length (ended_lines bytes) + 1)) (early_fault (cut bytes).rest))

-- the fault of the end of a stream of these lines, none of which is faulty
abbrev pub fault_at_end : List (List ℕ) → Option PyxError
fault_at_end ls = option_map (fault_at (length ls)) (end_fault (standing (events_of ls)))

-- the fault of the whole stream
abbrev pub fault_of : List ℕ → Option PyxError
fault_of stream = option_map_or (λ e. Some e) (first_fault [] (lines stream)) (fault_at_end (lines stream))
