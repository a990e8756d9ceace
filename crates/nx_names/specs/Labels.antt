-- The labels at or below each interval of a document, and the records that a walk by them comes to.
use Rattle.std.specs.Prelude.{◌≡◌, ℕ, Bool, if◌then◌else◌, List, [], ◌∷◌, ◌++◌}
use Rattle.nx_cuts.specs.Cut.{Bare, Grown, Kept}
use Rattle.nx_layouts.specs.Layout.{RecordPlace, Layout, laid_forest}
use Rattle.nx_reach.specs.Reach.{has_label}

-- what is held for each interval is whether a node at or below its members has a label
abbrev pub HoldsLabels : (RecordPlace → List ℕ → Bool) → Layout → Type 0
HoldsLabels holds Bare = Unit {0}
HoldsLabels holds (Grown node below beside) = HoldsLabels holds below × HoldsLabels holds beside
HoldsLabels holds (Kept place members beside) = ((name : List ℕ) → holds place name ≡ has_label name (laid_forest members)) × HoldsLabels holds members × HoldsLabels holds beside

-- the places of the records that a walk comes to which passes over the intervals that aren't wanted
abbrev pub entered_places : (RecordPlace → Bool) → Layout → List RecordPlace
entered_places wanted Bare = []
entered_places wanted (Grown node below beside) = entered_places wanted below ++ entered_places wanted beside
entered_places wanted (Kept place members beside) = (if wanted place then place ∷ entered_places wanted members else []) ++ entered_places wanted beside
