-- What is shown of a document that is laid out in records, where some of them are passed over.
use Rattle.std.specs.Prelude.{◌≡◌, ℕ, Bool, true, false, if◌then◌else◌, List, [], ◌∷◌, ◌++◌}
use Rattle.nx_matrix.specs.Label.{label}
use Rattle.nx_cuts.specs.Cut.{Bare, Grown, Kept, width}
use Rattle.nx_layouts.specs.Layout.{RecordPlace, Layout, laid_forest}
use Rattle.nx_reach.specs.Reach.{has_label}
use Rattle.nx_reach.specs.Seen.{Seen, Opened, Closed, Skipped}

-- what is shown of trees beside each other, where intervals that aren't wanted are passed over
abbrev pub shown_wanted : (RecordPlace → Bool) → Layout → List Seen
shown_wanted wanted Bare = []
shown_wanted wanted (Grown node below beside) = Opened (label node.node) ∷ shown_wanted wanted below ++ Closed ∷ shown_wanted wanted beside
shown_wanted wanted (Kept place members beside) = (if wanted place then shown_wanted wanted members else Skipped (width members) ∷ []) ++ shown_wanted wanted beside

-- no interval that isn't wanted has, at or below its members, a node of this label
abbrev pub SkipsOnly : List ℕ → (RecordPlace → Bool) → Layout → Type 0
SkipsOnly name wanted Bare = Unit {0}
SkipsOnly name wanted (Grown node below beside) = SkipsOnly name wanted below × SkipsOnly name wanted beside
SkipsOnly name wanted (Kept place members beside) =
    (wanted place ≡ true → SkipsOnly name wanted members) × (wanted place ≡ false → has_label name (laid_forest members) ≡ false) × SkipsOnly name wanted beside
