-- A sketch with the intervals of a plan drawn in: each node stays with its parent, begins an interval or goes on with one.
use Rattle.std.specs.Prelude.{◌≡◌, ◌≢◌, ℕ, ◌+◌, ◌<◌, ◌≤◌, List, [], ◌∷◌, ◌++◌, take, drop, max, Option, None, Some}
use Rattle.nx_matrix.specs.declared.rule.Entry.{Entry}
use Rattle.nx_matrix.specs.declared.rule.Entry.TheVariants.{Standalone, Cluster, Free}
use Rattle.nx_parts.specs.declared.interval.Interval.{Interval}
use Rattle.nx_parts.specs.declared.interval.Interval.TheVariants.{Run}
use Rattle.nx_division.specs.declared.cut.Cut.{Cut}
use Rattle.nx_division.specs.declared.cut.Cut.TheVariants.{Stays, Begins, GoesOn}
use Rattle.nx_sketch.specs.Sketch.{Sketch, Empty, Plant, spot_count}

pub data Drawn : Type 0 where
  Bare : Drawn
  Grown : (position weight : ℕ) (entry : Entry) (cut : Cut) (below beside : Drawn) → Drawn

-- the sketch with these cuts, in document order
abbrev pub drawn : Sketch → List Cut → Drawn
drawn Empty cuts = Bare
drawn (Plant position weight entry below beside) [] = Grown position weight entry Stays (drawn below []) (drawn beside [])
drawn (Plant position weight entry below beside) (cut ∷ cuts) =
    Grown position weight entry cut (drawn below (take (spot_count below) cuts)) (drawn beside (drop (spot_count below) cuts))

-- the sketch without its intervals
abbrev pub bare : Drawn → Sketch
bare Bare = Empty
bare (Grown position weight entry cut below beside) = Plant position weight entry (bare below) (bare beside)

-- what stays with the node above
abbrev pub staying_weight : Drawn → ℕ
staying_weight Bare = 0
staying_weight (Grown position weight entry Stays below beside) = weight + staying_weight below + staying_weight beside
staying_weight (Grown position weight entry Begins below beside) = staying_weight beside
staying_weight (Grown position weight entry GoesOn below beside) = staying_weight beside

-- what the members weigh that go on with the interval of the node before
abbrev pub goes : Drawn → ℕ
goes Bare = 0
goes (Grown position weight entry Stays below beside) = 0
goes (Grown position weight entry Begins below beside) = 0
goes (Grown position weight entry GoesOn below beside) = weight + staying_weight below + goes beside

-- the position of the last of them, or else that of the node before
abbrev pub end_position : ℕ → Drawn → ℕ
end_position last Bare = last
end_position last (Grown position weight entry Stays below beside) = last
end_position last (Grown position weight entry Begins below beside) = last
end_position last (Grown position weight entry GoesOn below beside) = end_position position beside

-- the intervals in document order, below the node at a path
abbrev pub drawn_intervals : List ℕ → Drawn → List Interval
drawn_intervals path Bare = []
drawn_intervals path (Grown position weight entry Stays below beside) = drawn_intervals (path ++ position ∷ []) below ++ drawn_intervals path beside
drawn_intervals path (Grown position weight entry Begins below beside) =
    Run path position (end_position position beside) ∷ drawn_intervals (path ++ position ∷ []) below ++ drawn_intervals path beside
drawn_intervals path (Grown position weight entry GoesOn below beside) = drawn_intervals (path ++ position ∷ []) below ++ drawn_intervals path beside

-- how many intervals they are
abbrev pub interval_count : Drawn → ℕ
interval_count Bare = 0
interval_count (Grown position weight entry Stays below beside) = interval_count below + interval_count beside
interval_count (Grown position weight entry Begins below beside) = 1 + interval_count below + interval_count beside
interval_count (Grown position weight entry GoesOn below beside) = interval_count below + interval_count beside

-- the heaviest part of an interval
abbrev pub heaviest : Drawn → ℕ
heaviest Bare = 0
heaviest (Grown position weight entry Stays below beside) = max (heaviest below) (heaviest beside)
heaviest (Grown position weight entry Begins below beside) = max (weight + staying_weight below + goes beside) (max (heaviest below) (heaviest beside))
heaviest (Grown position weight entry GoesOn below beside) = max (heaviest below) (heaviest beside)

-- the positions of neighbours rise, from this one on
abbrev pub Rises : ℕ → Drawn → Type 0
Rises low Bare = Unit {0}
Rises low (Grown position weight entry cut below beside) = (low ≤ position) × Rises 0 below × Rises (position + 1) beside

-- an interval that this node begins may be gone on with by its neighbour
abbrev pub opened : Entry → ℕ → Option ℕ
opened Standalone position = None
opened Cluster position = Some position
opened Free position = Some position

-- a standalone node is an interval alone, and a node goes on only with the interval of its neighbour before it; `before` is the position of that one
abbrev pub IsSoundDrawing : Option ℕ → Drawn → Type 0
IsSoundDrawing before Bare = Unit {0}
IsSoundDrawing before (Grown position weight entry Stays below beside) = (entry ≢ Standalone) × IsSoundDrawing None below × IsSoundDrawing None beside
IsSoundDrawing before (Grown position weight entry Begins below beside) = IsSoundDrawing None below × IsSoundDrawing (opened entry position) beside
IsSoundDrawing before (Grown position weight entry GoesOn below beside) =
    (last : ℕ) × (before ≡ Some last) × (position ≡ last + 1) × (entry ≢ Standalone) × IsSoundDrawing None below × IsSoundDrawing (Some position) beside

-- none of these nodes stays with the one above
abbrev pub NoneStays : Drawn → Type 0
NoneStays Bare = Unit {0}
NoneStays (Grown position weight entry Stays below beside) = ⊥
NoneStays (Grown position weight entry Begins below beside) = NoneStays beside
NoneStays (Grown position weight entry GoesOn below beside) = NoneStays beside

-- each cluster child stays with its parent
abbrev pub AreKept : Drawn → Type 0
AreKept Bare = Unit {0}
AreKept (Grown position weight entry cut below beside) = (entry ≡ Cluster → cut ≡ Stays) × AreKept below × AreKept beside

-- a neighbour may come to stand beside an interval that this node begins
abbrev pub stands_beside : Entry → ℕ → ℕ → Option (ℕ × ℕ)
stands_beside Standalone position weight = None
stands_beside Cluster position weight = Some (position, weight)
stands_beside Free position weight = Some (position, weight)

abbrev pub moved : Option (ℕ × ℕ) → ℕ → Option (ℕ × ℕ)
moved None position = None
moved (Some run) position = Some (position, run.1)

-- An interval and the one right before it, neither with a standalone member, weigh more than k together; `run` is the last position of the one before and what it weighs.
abbrev pub AreNeighboursHeavy : ℕ → Option (ℕ × ℕ) → Drawn → Type 0
AreNeighboursHeavy k run Bare = Unit {0}
AreNeighboursHeavy k run (Grown position weight entry Stays below beside) = AreNeighboursHeavy k None below × AreNeighboursHeavy k None beside
AreNeighboursHeavy k run (Grown position weight entry Begins below beside) =
    ((last before : ℕ) → run ≡ Some (last, before) → position ≡ last + 1 → entry ≢ Standalone → k < before + (weight + staying_weight below + goes beside))
    × AreNeighboursHeavy k None below × AreNeighboursHeavy k (stands_beside entry position (weight + staying_weight below + goes beside)) beside
AreNeighboursHeavy k run (Grown position weight entry GoesOn below beside) = AreNeighboursHeavy k None below × AreNeighboursHeavy k (moved run position) beside

-- what stays, what goes on, and the heaviest part
pub record AreWeights (d : Drawn) (staying going heavy : ℕ) : Type 0 where
  pub stays : staying ≡ staying_weight d
  pub goes_on : going ≡ goes d
  pub most : heavy ≡ heaviest d

-- the interval that a node begins, with those that go on with it behind it
abbrev pub run_of : List ℕ → ℕ → Cut → Drawn → List Interval
run_of path position Stays beside = []
run_of path position Begins beside = Run path position (end_position position beside) ∷ []
run_of path position GoesOn beside = []
