-- The commands of a seed and a number: a document is loaded, changed and looked at at drawn places, and exported.
use Rattle.std.specs.Prelude.{if◌then◌else◌, ◌==◌, ℕ, zero, suc, ◌+◌, List, [], ◌∷◌, ◌++◌, codes, decimal}
use Rattle.nx_tree.specs.declared.node.Kind.TheVariants.{Doc, Element, Attribute, Instruction}
use Rattle.nx_tree.specs.declared.node.Node.{Node}
use Rattle.nx_tree.specs.Forest.{OrderedTree, forest_of, Empty, Plant}
use Rattle.nx_pyx.specs.Event.{text_node}
use Rattle.nx_script.specs.declared.command.LoadBody.TheVariants as load
use Rattle.nx_script.specs.declared.command.LineBody.TheVariants as line
use Rattle.nx_script.specs.declared.command.TextBody.TheVariants as content
use Rattle.nx_script.specs.declared.command.Command.{Command}
use Rattle.nx_script.specs.declared.command.Command.TheVariants.{Load, Export, Insert, Delete, Retext, Get}
use Rattle.nx_gen.specs.Draws.{next_state, after_text, drawn_below, drawn_text}

abbrev pub doc_node : Node
doc_node = record { kind = Doc; name = []; content = [] }

abbrev pub element_node : List ℕ → Node
element_node name = record { kind = Element; name = name; content = [] }

abbrev pub id_node : ℕ → Node
id_node number = record { kind = Attribute; name = codes "id"; content = decimal number }

abbrev pub instruction_node : List ℕ → Node
instruction_node text = record { kind = Instruction; name = codes "p"; content = text }

-- an element `e` with its number and a drawn text
abbrev pub numbered_element : ℕ → ℕ → OrderedTree
numbered_element number state = record { node = element_node (codes "e"); below = Plant (id_node number) Empty (Plant (text_node (drawn_text state)) Empty Empty) }

-- so many of them from a number on, their texts drawn in order
abbrev pub elements_from : ℕ → ℕ → ℕ → List OrderedTree
elements_from number zero state = []
elements_from number (suc many) state = numbered_element number state ∷ elements_from (number + 1) many (after_text state)

-- the state after so many texts
abbrev pub after_texts : ℕ → ℕ → ℕ
after_texts zero state = state
after_texts (suc many) state = after_texts many (after_text state)

-- the document that is loaded: an element `r` over n of them, from 0 on
abbrev pub document : ℕ → ℕ → OrderedTree
document n state = record { node = doc_node; below = Plant (element_node (codes "r")) (forest_of (elements_from 0 n state)) Empty }

-- the name under which it is kept
abbrev pub gen_name : List ℕ
gen_name = codes "gen"

-- the path of the second child of an element
abbrev pub second_in : ℕ → List ℕ
second_in element = 0 ∷ element ∷ 1 ∷ []

-- the commands of one kind at an element, with a text
abbrev pub kind_commands : ℕ → ℕ → List ℕ → List Command
kind_commands element kind text =
    if kind == 0 then Retext gen_name (second_in element) (content.Read text) ∷ []
    else if kind == 1 then Insert gen_name (second_in element) (line.Read (text_node text)) ∷ []
    else if kind == 2 then Get gen_name (0 ∷ element ∷ []) ∷ []
    else Insert gen_name (second_in element) (line.Read (instruction_node text)) ∷ Delete gen_name (second_in element) ∷ []

-- an element, a kind and, unless the kind is 2, a text are drawn, and these are the commands
abbrev pub drawn_commands : ℕ → ℕ → List Command
drawn_commands n state = kind_commands (drawn_below n state) (drawn_below 4 (next_state state)) (drawn_text (next_state (next_state state)))

-- the state after the text, where one is drawn
abbrev pub after_kind : ℕ → ℕ → ℕ
after_kind kind state = if kind == 2 then state else after_text state

abbrev pub after_commands : ℕ → ℕ
after_commands state = after_kind (drawn_below 4 (next_state state)) (next_state (next_state state))

-- so many times
abbrev pub all_drawn : ℕ → ℕ → ℕ → List Command
all_drawn n zero state = []
all_drawn n (suc many) state = drawn_commands n state ++ all_drawn n many (after_commands state)

-- the commands of a seed and a number
abbrev pub commands : ℕ → ℕ → List Command
commands seed n = Load gen_name (load.Read (document n seed)) ∷ all_drawn n n (after_texts n seed) ++ Export gen_name ∷ []
