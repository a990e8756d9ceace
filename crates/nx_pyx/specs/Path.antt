-- The text of a path.
use Rattle.std.specs.Prelude.{ℕ, List, [], ◌∷◌, codes, decimal}
use Rattle.std.specs.List.{flat_map}

-- a position behind its slash
abbrev pub step_text : ℕ → List ℕ
step_text position = 47 ∷ decimal position

-- one slash alone for the root, or a slash and a decimal for each position
abbrev pub path_text : List ℕ → List ℕ
path_text [] = codes "/"
path_text (position ∷ positions) = flat_map step_text (position ∷ positions)
