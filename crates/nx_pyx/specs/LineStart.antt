-- How a node's line begins.
use Rattle.std.specs.Prelude.{ℕ, List, [], ◌∷◌, ◌++◌}
use Rattle.nx_tree.specs.declared.node.Kind.{Kind}
use Rattle.nx_tree.specs.declared.node.Kind.TheVariants.{Doc, Element, Attribute, Text, Instruction}

-- How the line of a node begins that has a content, up to this. A kind that has none begins as its whole line.
abbrev pub line_start : Kind → (name : List ℕ) → List ℕ
line_start Doc name = 35 ∷ 100 ∷ 111 ∷ 99 ∷ []
line_start Element name = 40 ∷ name
line_start Attribute name = 65 ∷ name ++ 32 ∷ []
line_start Text name = 45 ∷ []
line_start Instruction name = 63 ∷ name ++ 32 ∷ []
