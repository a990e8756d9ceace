-- The canonical text of a document.
use Rattle.std.specs.Prelude.{ℕ, ◌==◌, if◌then◌else◌, List, [], ◌∷◌, ◌++◌}
use Rattle.std.specs.List.{flat_map}
use Rattle.nx_tree.specs.declared.node.Kind.{Kind}
use Rattle.nx_tree.specs.declared.node.Kind.TheVariants.{Doc, Element, Attribute, Text, Instruction}
use Rattle.nx_tree.specs.Forest.{OrderedTree, Plant, Empty}
use Rattle.nx_tree.specs.Document.{is_empty, is_doc}
use Rattle.nx_pyx.specs.Event.{Event, Start, End, Single, events}

-- LF, TAB, CR and the backslash as two bytes, any other byte as itself
abbrev pub escape : ℕ → List ℕ
escape b =
    if b == 10 then 92 ∷ 110 ∷ []
    else if b == 9 then 92 ∷ 116 ∷ []
    else if b == 13 then 92 ∷ 114 ∷ []
    else if b == 92 then 92 ∷ 92 ∷ []
    else b ∷ []

abbrev pub escaped : List ℕ → List ℕ
escaped content = flat_map escape content

-- the line of a node without children; # d o c for the root of a document
abbrev pub node_line : Kind → List ℕ → List ℕ → List ℕ
node_line Doc name content = 35 ∷ 100 ∷ 111 ∷ 99 ∷ []
node_line Element name content = 40 ∷ name
node_line Attribute name content = 65 ∷ name ++ 32 ∷ escaped content
node_line Text name content = 45 ∷ escaped content
node_line Instruction name content = 63 ∷ name ++ (if is_empty content then [] else 32 ∷ escaped content)

-- the canonical line of an event
abbrev pub canonical_line : Event → List ℕ
canonical_line (Start name) = 40 ∷ name
canonical_line (End name) = 41 ∷ name
canonical_line (Single node) = node_line node.kind node.name node.content

-- the canonical lines of events, each with its LF
abbrev pub text_of : List Event → List ℕ
text_of es = flat_map (λ e. canonical_line e ++ 10 ∷ []) es

-- the canonical text of a document
abbrev pub text : OrderedTree → List ℕ
text tree = text_of (events tree.below)

-- The canonical lines of a node with all below it, as they stand in the text of its document: of a document's root the whole text, since it has no line.
abbrev pub tree_text : OrderedTree → List ℕ
tree_text tree = if is_doc tree.node.kind then text tree else text_of (events (Plant tree.node tree.below Empty))
