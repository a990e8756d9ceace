-- Trees that are drawn one after the other, as the stands of a choice say.
use Rattle.std.specs.Prelude.{ℕ, ◌+◌, List, [], ◌∷◌, ◌++◌}
use Rattle.nx_parts.specs.declared.bounds.Bound.{Bound}
use Rattle.nx_parts.specs.declared.interval.Interval.{Interval}
use Rattle.nx_choices.specs.declared.child.Stand.{Stand}
use Rattle.nx_choices.specs.Stand.{takes_second}
use Rattle.nx_cuts.specs.Cut.{CutTree, intervals}
use Rattle.nx_minima.specs.Drawing.{Reaches}
use Rattle.nx_partition.specs.Planning.{number_in, weight_in, interval_begun}

-- each of these trees reaches the form of its minima in which it stands
abbrev pub AreFormed : ℕ → List Stand → List Bound → List CutTree → Type 0
AreFormed k [] [] [] = Unit {0}
AreFormed k (stand ∷ list) (bound ∷ bounds) (tree ∷ trees) =
    Reaches k (number_in (takes_second stand) bound) (weight_in (takes_second stand) bound) tree × AreFormed k list bounds trees
AreFormed k list bounds trees = ⊥

-- the intervals of trees that stand so below the node at a path, from a position on, in document order
abbrev pub listed : List ℕ → ℕ → List Stand → List CutTree → List Interval
listed path position [] trees = []
listed path position (stand ∷ list) [] = []
listed path position (stand ∷ list) (tree ∷ trees) =
    interval_begun path position stand ++ intervals (path ++ position ∷ []) 0 tree.below ++ listed path (position + 1) list trees
