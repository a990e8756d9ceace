-- The order of intervals in a document.
use Rattle.std.specs.Prelude.{◌≡◌, ℕ, ◌<◌, ◌⊎◌, List, [], ◌∷◌, ◌++◌}
use Rattle.std.specs.List.{AllPairs}
use Rattle.nx_parts.specs.declared.interval.Interval.{Interval}
use Rattle.nx_parts.specs.declared.interval.Interval.TheVariants.{Root, Run}

-- the node at the first path comes before the one at the second in document order: it stands above it, or in an earlier subtree below the same node
abbrev pub ComesBefore : List ℕ → List ℕ → Type 0
ComesBefore [] [] = ⊥
ComesBefore [] (position ∷ path) = Unit {0}
ComesBefore (step ∷ before) [] = ⊥
ComesBefore (step ∷ before) (position ∷ path) = (step < position) ⊎ ((step ≡ position) × ComesBefore before path)

-- the path of an interval's first member
abbrev pub first_member : Interval → List ℕ
first_member Root = []
first_member (Run parent first last) = parent ++ first ∷ []

-- the intervals stand in document order of their first members, so that the root's comes first
abbrev pub AreInOrder : List Interval → Type 0
AreInOrder parts = AllPairs (λ a b. ComesBefore (first_member a) (first_member b)) parts
