-- The labels of nodes.
use Rattle.std.specs.Prelude.{ℕ, List, ◌∷◌, Option, None, Some, codes}
use Rattle.nx_tree.specs.declared.node.Kind.{Kind}
use Rattle.nx_tree.specs.declared.node.Kind.TheVariants.{Doc, Element, Attribute, Text, Instruction}
use Rattle.nx_tree.specs.declared.node.Node.{Node}

abbrev pub label_by : Kind → List ℕ → List ℕ
label_by Doc name = codes "#doc"
label_by Element name = name
label_by Attribute name = 64 ∷ name
label_by Text name = codes "#text"
label_by Instruction name = 63 ∷ name

-- an element's name; #doc; #text; @ or ? and the name, for an attribute or an instruction
abbrev pub label : Node → List ℕ
label node = label_by node.kind node.name

-- the byte that labels of a kind begin with
abbrev pub mark_of : Kind → Option ℕ
mark_of Doc = Some 35
mark_of Element = None
mark_of Attribute = Some 64
mark_of Text = Some 35
mark_of Instruction = Some 63

-- bytes behind a mark
abbrev pub behind_mark : Option ℕ → List ℕ → List ℕ
behind_mark None bytes = bytes
behind_mark (Some mark) bytes = mark ∷ bytes
