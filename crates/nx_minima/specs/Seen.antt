-- The minima of children, as the choices at their parent see them.
use Rattle.std.specs.Prelude.{List, [], ◌∷◌, drop, map}
use Rattle.nx_tree.specs.Forest.{Forest, Empty, Plant, nodes}
use Rattle.nx_parts.specs.declared.bounds.Bound.{Bound}
use Rattle.nx_choices.specs.declared.child.Child.{Child}

abbrev pub as_child : Bound → Child
as_child bound = record { least = bound.least; lean = bound.lean; nearly = bound.nearly }

abbrev pub seen : List Bound → List Child
seen bounds = map as_child bounds

-- of bounds of all nodes of a forest, in document order, those of its trees themselves
abbrev pub tops : Forest → List Bound → List Bound
tops Empty bounds = []
tops (Plant node below beside) [] = []
tops (Plant node below beside) (bound ∷ bounds) = bound ∷ tops beside (drop (nodes below) bounds)
