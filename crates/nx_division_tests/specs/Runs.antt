-- The intervals of the separator's plan, found one by one.
use Rattle.std.specs.Prelude.{◌≡◌, ℕ, ◌+◌, ◌<◌, ◌≤◌, Bool, true, List, [], ◌∷◌, ◌++◌, ◌⊎◌}
use Rattle.nx_parts.specs.declared.interval.Interval.{Interval}
use Rattle.nx_parts.specs.declared.interval.Interval.TheVariants.{Run}
use Rattle.nx_parts.specs.Order.{first_member}
use Rattle.nx_sketch.specs.Sketch.{Placed}
use Rattle.nx_sketch.specs.Separator.{IsLoose, IsSeparatorRun, is_marked}

-- the child is loose on that side, and the one before it isn't
abbrev pub IsFirstOfRow : List Placed → ℕ → ℕ → Bool → List ℕ → ℕ → Type 0
IsFirstOfRow nodes t tolerance left parent first =
    IsLoose nodes t tolerance left (parent ++ first ∷ [])
    × ((position : ℕ) → position + 1 ≡ first → ¬ IsLoose nodes t tolerance left (parent ++ position ∷ []))

-- the helper's children, or those of a node of the separator
abbrev pub IsHelperOrMarked : List Placed → ℕ → ℕ → List ℕ → Type 0
IsHelperOrMarked nodes t tolerance parent = (parent ≡ []) ⊎ (is_marked nodes t tolerance parent ≡ true)

abbrev pub BeginsRow : List Placed → ℕ → ℕ → Bool → List ℕ → ℕ → Type 0
BeginsRow nodes t tolerance left parent first = IsHelperOrMarked nodes t tolerance parent × IsFirstOfRow nodes t tolerance left parent first

-- a row goes on from a position to this one
pub record IsRowEnd (nodes : List Placed) (t tolerance : ℕ) (left : Bool) (parent : List ℕ) (from last : ℕ) : Type 0 where
  pub least : from ≤ last
  pub loose : (position : ℕ) → from < position → position ≤ last → IsLoose nodes t tolerance left (parent ++ position ∷ [])
  pub end : ¬ IsLoose nodes t tolerance left (parent ++ (last + 1) ∷ [])

-- the plan's interval that begins with this child ends with that one, and no other one begins there
pub record IsOnlyRun (nodes : List Placed) (t tolerance : ℕ) (parent : List ℕ) (first last : ℕ) : Type 0 where
  pub run : IsSeparatorRun nodes t tolerance (Run parent first last)
  pub only : (other : ℕ) → IsSeparatorRun nodes t tolerance (Run parent first other) → other ≡ last

-- no interval of the plan begins with the node at the path
abbrev pub IsNoStart : List Placed → ℕ → ℕ → List ℕ → Type 0
IsNoStart nodes t tolerance path = (interval : Interval) → first_member interval ≡ path → ¬ IsSeparatorRun nodes t tolerance interval

-- this one does, and no other one
pub record IsStart (nodes : List Placed) (t tolerance : ℕ) (path : List ℕ) (interval : Interval) : Type 0 where
  pub first : first_member interval ≡ path
  pub run : IsSeparatorRun nodes t tolerance interval
  pub only : (other : Interval) → first_member other ≡ path → IsSeparatorRun nodes t tolerance other → other ≡ interval

-- the interval that begins with the node at the path is added, if there is one
abbrev pub AddsRun : List Placed → ℕ → ℕ → List ℕ → List Interval → List Interval → Type 0
AddsRun nodes t tolerance path old new =
    (IsNoStart nodes t tolerance path × (new ≡ old)) ⊎ ((interval : Interval) × IsStart nodes t tolerance path interval × (new ≡ old ++ interval ∷ []))
