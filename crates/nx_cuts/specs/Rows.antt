-- Rows of trees with intervals drawn in: behind each other, their first trees and the others, and one tree changed.
use Rattle.std.specs.Prelude.{ℕ, zero, suc, ◌-◌, nat_lt, if◌then◌else◌}
use Rattle.nx_cuts.specs.Cut.{Cut, CutForest, Bare, Grown, Kept, CutTree, width}

-- trees with others beside them
abbrev pub joined_row : {N P : Type 0} → Cut N P → Cut N P → Cut N P
joined_row Bare last = last
joined_row (Grown node below beside) last = Grown node below (joined_row beside last)
joined_row (Kept mark members beside) last = Kept mark members (joined_row beside last)

-- the first trees of a row of free ones, and those behind them
abbrev pub first : {N P : Type 0} → ℕ → Cut N P → Cut N P
first zero c = Bare
first (suc n) (Grown node below beside) = Grown node below (first n beside)
first (suc n) c = Bare

abbrev pub behind : {N P : Type 0} → ℕ → Cut N P → Cut N P
behind zero c = c
behind (suc n) (Grown node below beside) = behind n beside
behind (suc n) c = Bare

-- with the tree at a position changed
abbrev pub changed_row : ℕ → (CutTree → CutTree) → CutForest → CutForest
changed_row position change Bare = Bare
changed_row zero change (Grown node below beside) = let t = change (record { node = node; below = below }) in Grown t.node t.below beside
changed_row (suc position) change (Grown node below beside) = Grown node below (changed_row position change beside)
changed_row position change (Kept mark members beside) =
    if nat_lt position (width members) then Kept mark (changed_row position change members) beside
    else Kept mark members (changed_row (position - width members) change beside)
