-- The intervals below one node by their first and last positions, where a node comes or a tree goes.
use Rattle.std.specs.Prelude.{◌≡◌, ℕ, ◌+◌, ◌-◌, ◌<◌, ◌≤◌, ◌==◌, nat_lt, if◌then◌else◌, List, [], ◌∷◌, ◌++◌, map}
use Rattle.nx_tree.specs.declared.node.Node.{Node}
use Rattle.nx_matrix.specs.declared.rule.Entry.{Entry}
use Rattle.nx_matrix.specs.declared.rule.Entry.TheVariants.{Standalone, Cluster, Free}
use Rattle.nx_cuts.specs.Cut.{CutForest, Bare, Grown, Kept, width, AreParts}
use Rattle.nx_drawn.specs.Edits.{planted_row, removed_row}

-- the first and the last position of an interval
abbrev pub Run : Type 0
Run = ℕ × ℕ

-- the intervals of a row that begins at a position, in order
abbrev pub runs : ℕ → CutForest → List Run
runs position Bare = []
runs position (Grown node below beside) = runs (position + 1) beside
runs position (Kept mark members beside) = (position, position + width members - 1) ∷ runs (position + width members) beside

-- one position later, and one earlier
abbrev pub later : Run → Run
later run = (run.0 + 1, run.1 + 1)

abbrev pub earlier : Run → Run
earlier run = (run.0 - 1, run.1 - 1)

-- what a new node at a position is outside of intervals
abbrev pub new_run : Entry → ℕ → List Run
new_run Standalone position = (position, position) ∷ []
new_run Cluster position = []
new_run Free position = []

-- what becomes of an interval that a new node falls inside
abbrev pub divided_run : Entry → ℕ → Run → List Run
divided_run Standalone position run = (run.0, position - 1) ∷ (position, position) ∷ (position + 1, run.1 + 1) ∷ []
divided_run Cluster position run = (run.0, position - 1) ∷ (position + 1, run.1 + 1) ∷ []
divided_run Free position run = (run.0, run.1 + 1) ∷ []

-- the intervals where a new node stands at a position; it falls inside one that begins before it and doesn't end before it
abbrev pub runs_with : Entry → ℕ → List Run → List Run
runs_with entry position [] = new_run entry position
runs_with entry position (run ∷ rest) =
    if nat_lt run.1 position then run ∷ runs_with entry position rest
    else if nat_lt run.0 position then divided_run entry position run ++ map later rest
    else new_run entry position ++ map later (run ∷ rest)

-- what becomes of an interval that loses a member
abbrev pub less_run : Run → List Run
less_run run = if run.0 == run.1 then [] else (run.0, run.1 - 1) ∷ []

-- the intervals where the tree at a position is gone
abbrev pub runs_without : ℕ → List Run → List Run
runs_without position [] = []
runs_without position (run ∷ rest) =
    if nat_lt run.1 position then run ∷ runs_without position rest
    else if nat_lt position run.0 then map earlier (run ∷ rest)
    else less_run run ++ map earlier rest

-- A new node changes the intervals beside it so.
abbrev pub PlantsRuns : Type 0
PlantsRuns = (k : ℕ) (entry : Entry) (node : Node) (position : ℕ) (row : CutForest) → AreParts k row → position ≤ width row → runs 0 (planted_row tt tt entry node position row) ≡ runs_with entry position (runs 0 row)

-- A tree that goes changes them so.
abbrev pub RemovesRuns : Type 0
RemovesRuns = (k position : ℕ) (row : CutForest) → AreParts k row → position < width row → runs 0 (removed_row position row) ≡ runs_without position (runs 0 row)
