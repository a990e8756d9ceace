-- A draft with one interval more, which comes.
use Rattle.std.specs.Prelude.{ℕ, zero, suc, ◌-◌, nat_lt, if◌then◌else◌, List, [], ◌∷◌}
use Rattle.nx_cuts.specs.Cut.{width}
use Rattle.nx_layouts.specs.Layout.{without_places}
use Rattle.nx_drafts.specs.Draft.{Draft, Ends, Grows, Stands, Comes, drawn_forest}

-- the first trees of a row of free ones, and those behind them
abbrev pub front : {P : Type 0} → ℕ → Draft P → Draft P
front zero c = Ends
front (suc n) (Grows node below beside) = Grows node below (front n beside)
front (suc n) c = Ends

abbrev pub back : {P : Type 0} → ℕ → Draft P → Draft P
back zero c = c
back (suc n) (Grows node below beside) = back n beside
back (suc n) c = Ends

-- so many trees from a position on become the members of an interval that comes
abbrev pub gathered : ℕ → ℕ → Draft (Unit {0}) → Draft (Unit {0})
gathered zero count c = Comes tt (front count c) (back count c)
gathered (suc position) count Ends = Ends
gathered (suc position) count (Grows node below beside) = Grows node below (gathered position count beside)
gathered (suc position) count (Stands place members beside) = Stands place members (gathered (suc position - width (without_places members)) count beside)
gathered (suc position) count (Comes mark members beside) = Comes mark members (gathered (suc position - width (drawn_forest members)) count beside)

-- with what is below the tree at a position changed, which is no member of an interval that stands
abbrev pub altered : ℕ → (Draft (Unit {0}) → Draft (Unit {0})) → Draft (Unit {0}) → Draft (Unit {0})
altered position change Ends = Ends
altered zero change (Grows node below beside) = Grows node (change below) beside
altered (suc position) change (Grows node below beside) = Grows node below (altered position change beside)
altered position change (Stands place members beside) = Stands place members (altered (position - width (without_places members)) change beside)
altered position change (Comes mark members beside) =
    if nat_lt position (width (drawn_forest members)) then Comes mark (altered position change members) beside
    else Comes mark members (altered (position - width (drawn_forest members)) change beside)

-- with an interval that comes below the node at a path
abbrev pub gathered_at : List ℕ → ℕ → ℕ → Draft (Unit {0}) → Draft (Unit {0})
gathered_at [] position count c = gathered position count c
gathered_at (step ∷ path) position count c = altered step (gathered_at path position count) c
