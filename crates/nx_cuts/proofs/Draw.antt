-- One interval more, drawn into a tree.
use Rattle.std.specs.Prelude.{ℕ, zero, suc, ◌-◌, ◌≤◌, nat_lt, List, [], ◌∷◌}
use Rattle.std.specs.Bool.{MatchBool}
use Rattle.nx_cuts.specs.Cut.{CutForest, Bare, Grown, Kept, CutTree, width}
use Rattle.std.specs.Bool.{MatchBool}
use Rattle.nx_cuts.specs.Rows.{first, behind, changed_row}

-- so many trees from a position on become the members of an interval
abbrev pub wrapped : ℕ → ℕ → CutForest → CutForest
wrapped zero count c = Kept tt (first count c) (behind count c)
wrapped (suc position) count Bare = Bare
wrapped (suc position) count (Grown node below beside) = Grown node below (wrapped position count beside)
wrapped (suc position) count (Kept mark members beside) = Kept mark members (wrapped (suc position - width members) count beside)

-- the first trees are free
abbrev pub BeginsFree : ℕ → CutForest → Type 0
BeginsFree zero c = Unit {0}
BeginsFree (suc count) Bare = ⊥
BeginsFree (suc count) (Grown node below beside) = BeginsFree count beside
BeginsFree (suc count) (Kept mark members beside) = ⊥

-- so many trees from a position on are there and free
abbrev pub IsFreeRun : ℕ → ℕ → CutForest → Type 0
IsFreeRun zero count c = BeginsFree count c
IsFreeRun (suc position) count Bare = ⊥
IsFreeRun (suc position) count (Grown node below beside) = IsFreeRun position count beside
IsFreeRun (suc position) count (Kept mark members beside) = (width members ≤ suc position) × IsFreeRun (suc position - width members) count beside

-- with an interval drawn in below the node at a path
abbrev pub drawn : List ℕ → ℕ → ℕ → CutTree → CutTree
drawn [] position count t = record { node = t.node; below = wrapped position count t.below }
drawn (step ∷ path) position count t = record { node = t.node; below = changed_row step (drawn path position count) t.below }

-- Q holds of what is below the tree at that position
abbrev pub AtRow : ℕ → (CutForest → Type 0) → CutForest → Type 0
AtRow position Q Bare = ⊥
AtRow zero Q (Grown node below beside) = Q below
AtRow (suc position) Q (Grown node below beside) = AtRow position Q beside
AtRow position Q (Kept mark members beside) = MatchBool (nat_lt position (width members)) (AtRow position Q members) (AtRow (position - width members) Q beside)

-- below the node at the path so many trees from a position on are there and free
abbrev pub IsFreeAt : List ℕ → ℕ → ℕ → CutForest → Type 0
IsFreeAt [] position count below = IsFreeRun position count below
IsFreeAt (step ∷ path) position count below = AtRow step (IsFreeAt path position count) below
