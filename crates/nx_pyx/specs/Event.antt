-- What a line means, and the events of a tree.
use Rattle.std.specs.Prelude.{ℕ, Bool, ◌==◌, if◌then◌else◌, List, [], ◌∷◌, ◌++◌, Option, None, Some}
use Rattle.std.specs.List.{before_first, after_first}
use Rattle.std.specs.Option.{option_map_or}
use Rattle.nx_tree.specs.declared.node.Kind.{Kind}
use Rattle.nx_tree.specs.declared.node.Kind.TheVariants.{Attribute, Text, Instruction}
use Rattle.nx_tree.specs.declared.node.Node.{Node}
use Rattle.nx_tree.specs.Forest.{Forest, Empty, Plant}
use Rattle.nx_tree.specs.Document.{is_element}

-- what a line says: an element starts, the open element of this name ends, or one node without children
pub data Event : Type 0 where
  Start : (name : List ℕ) → Event
  End : (name : List ℕ) → Event
  Single : (node : Node) → Event

-- the byte that a backslash and this byte stand for, where they stand for one
abbrev pub unescaped_byte : ℕ → Option ℕ
unescaped_byte b =
    if b == 110 then Some 10
    else if b == 116 then Some 9
    else if b == 114 then Some 13
    else if b == 92 then Some 92
    else None

-- the bytes with one in front, or with the one that a pair of bytes stands for
abbrev pub unescape_pair : ℕ → ℕ → List ℕ → List ℕ → List ℕ
unescape_pair a b behind_pair behind_first =
    if a == 92 then option_map_or (λ byte. byte ∷ behind_pair) (unescaped_byte b) (a ∷ behind_first) else a ∷ behind_first

-- The content that bytes of a line stand for. A backslash that begins no pair stands for itself.
abbrev pub unescape : List ℕ → List ℕ
unescape [] = []
unescape (a ∷ []) = a ∷ []
unescape (a ∷ b ∷ bytes) = unescape_pair a b (unescape bytes) (unescape (b ∷ bytes))

abbrev pub is_space : ℕ → Bool
is_space b = b == 32

-- a text of this content
abbrev pub text_node : List ℕ → Node
text_node content = record { kind = Text; name = []; content = content }

-- a node with a name up to the first space, and the content behind it
abbrev pub named_node : Kind → List ℕ → Node
named_node kind rest = record { kind = kind; name = before_first is_space rest; content = unescape (after_first is_space rest) }

-- what a line with this code says with the bytes behind it: ( a start, ) an end, A an attribute, - a text, ? an instruction
abbrev pub event_by : ℕ → List ℕ → Option Event
event_by code rest =
    if code == 40 then Some (Start rest)
    else if code == 41 then Some (End rest)
    else if code == 65 then Some (Single (named_node Attribute rest))
    else if code == 45 then Some (Single (text_node (unescape rest)))
    else if code == 63 then Some (Single (named_node Instruction rest))
    else None

-- what a line says, where it isn't empty and begins with one of the five codes
abbrev pub event_of : List ℕ → Option Event
event_of [] = None
event_of (code ∷ rest) = event_by code rest

-- the events of a forest in document order: an element's start, what is below it and its end; any other node alone
abbrev pub events : Forest → List Event
events Empty = []
events (Plant node below beside) =
    (if is_element node.kind then Start node.name ∷ events below ++ End node.name ∷ [] else Single node ∷ []) ++ events beside
