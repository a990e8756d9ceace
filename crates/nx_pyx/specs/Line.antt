-- The event of a line as the code has it, and the node of a line alone.
use Rattle.std.specs.Prelude.{◌≡◌, ℕ, Bool, ◌==◌, if◌then◌else◌, List, [], Option, None, Some}
use Rattle.std.specs.Option.{option_map_or, option_map}
use Rattle.nx_tree.specs.declared.node.Kind.TheVariants as kind
use Rattle.nx_tree.specs.declared.node.Kind.{Kind}
use Rattle.nx_tree.specs.declared.node.Node.{Node}
use Rattle.nx_pyx.specs.declared.line.Line.{Line}
use Rattle.nx_pyx.specs.declared.line.Line.TheVariants.{Start, End, Attribute, Text, Instruction}
use Rattle.nx_pyx.specs.declared.error.PyxFault.{PyxFault}
use Rattle.nx_pyx.specs.declared.error.PyxFault.TheVariants.{BadCode, BadName, BadNesting, LongLine}
use Rattle.nx_pyx.specs.declared.error.ReadError.{ReadError}
use Rattle.nx_pyx.specs.declared.error.ReadError.TheVariants.{Pyx, Memory}
use Rattle.nx_pyx.specs.Event as event
use Rattle.nx_pyx.specs.Event.{Event, event_of, text_node, unescape}
use Rattle.nx_pyx.specs.Fault.{is_long, is_misnamed, makes_node, fault_at}

-- a node of this name, and of the content that the bytes of its line stand for
abbrev pub node_in : Kind → List ℕ → List ℕ → Node
node_in kind name content = record { kind = kind; name = name; content = unescape content }

abbrev pub event_in : Line → Event
event_in (Start name) = event.Start name.now
event_in (End name) = event.End name.now
event_in (Attribute name content) = event.Single (node_in kind.Attribute name.now content.now)
event_in (Text content) = event.Single (text_node (unescape content.now))
event_in (Instruction name content) = event.Single (node_in kind.Instruction name.now content.now)

abbrev pub is_backslash : ℕ → Bool
is_backslash b = b == 92

-- the node of an event that makes one, without what is below it
abbrev pub node_of : Event → Node
node_of (event.Start name) = record { kind = kind.Element; name = name; content = [] }
node_of (event.End name) = record { kind = kind.Element; name = name; content = [] }
node_of (event.Single node) = node

-- the fault of an event that is to make a node and stands alone
abbrev pub event_fault : Event → Option PyxFault
event_fault e = if is_long e then Some LongLine else if is_misnamed e then Some BadName else if makes_node e then None else Some BadNesting

-- the fault of a line that is to make a node and stands alone
abbrev pub node_line_fault : List ℕ → Option PyxFault
node_line_fault line = option_map_or event_fault (event_of line) (Some BadCode)

-- The error is that fault, of the first line, or want of memory.
abbrev pub FailsAlone : Option PyxFault → ReadError → Type 0
FailsAlone found (Pyx error) = option_map (fault_at 1) found ≡ Some error
FailsAlone found Memory = Unit {0}
