-- What an interval owns of a forest, by a walk that carries the owner down.
use Rattle.std.specs.Prelude.{ℕ, ◌+◌, Bool, false, ◌==◌, if◌then◌else◌, List, [], ◌∷◌, ◌++◌, Option}
use Rattle.std.specs.Option.{option_map_or, option_or}
use Rattle.nx_tree.specs.Forest.{Forest, Empty, Plant}
use Rattle.nx_weights.specs.Weight.{weight}
use Rattle.nx_parts.specs.declared.interval.Interval.{Interval}
use Rattle.nx_parts.specs.Partitioning.{holder}

abbrev pub is_place : ℕ → Option ℕ → Bool
is_place index place = option_map_or (λ p. p == index) place false

-- what the interval at this place of the list owns of the forest below the node at a path, from a position on, where `above` owns that node
abbrev pub owned : List Interval → ℕ → Option ℕ → List ℕ → ℕ → Forest → ℕ
owned parts index above path position Empty = 0
owned parts index above path position (Plant node below beside) =
    (if is_place index (option_or (holder parts (path ++ position ∷ [])) above) then weight node else 0)
    + owned parts index (option_or (holder parts (path ++ position ∷ [])) above) (path ++ position ∷ []) 0 below
    + owned parts index above path (position + 1) beside
