-- What a writer has still to write.
use Rattle.std.specs.Prelude.{ℕ, List, [], ◌∷◌, ◌++◌}
use Rattle.nx_tree.specs.Forest.{Forest, forest_of}
use Rattle.nx_pyx.specs.declared.writer.OpenElement.{OpenElement}
use Rattle.nx_pyx.specs.declared.writer.Writer.TheInside.{Inside}
use Rattle.nx_pyx.specs.Event.{events}
use Rattle.nx_pyx.specs.Text.{text_of}

-- the text of trees beside each other
abbrev pub forest_text : Forest → List ℕ
forest_text forest = text_of (events forest)

-- the end line of an element of this name
abbrev pub end_line : List ℕ → List ℕ
end_line name = 41 ∷ name ++ 10 ∷ []

-- the end lines of open elements, the innermost one's first, each with the text of the trees after it
abbrev pub text_after : List OpenElement → List ℕ
text_after [] = []
text_after (element ∷ elements) = text_after elements ++ (end_line element.name.now ++ forest_text (forest_of element.after.now))

-- what is still to write: the trees that are left, and what comes after them
abbrev pub text_left : Inside → List ℕ
text_left writer = forest_text (forest_of writer.rest.now) ++ text_after writer.elements.items
