-- A sketch with the intervals of its division drawn in.
use Rattle.std.specs.Prelude.{◌≡◌, ℕ, ◌^◌, ◌<◌, ◌≤◌, true, Option, None, List, ◌⊎◌}
use Rattle.nx_sketch.specs.declared.spot.Spot.{Spot}
use Rattle.nx_sketch.specs.Sketch.{Sketch, AreSpotsAtMost, spots_of, sketch_weight}
use Rattle.nx_division.specs.Drawn.{Drawn, heaviest, AreKept, NoneStays, AreNeighboursHeavy, IsSoundDrawing}
use Rattle.nx_division.specs.Settled.{AreTopsLight}
use Rattle.nx_division.specs.Separated.{separated}
use Rattle.nx_division.specs.Raised.{raised_plan, raised_root}

-- the list is that of a sketch none of whose nodes is too heavy
pub record IsSplittable (k : ℕ) (spots : List Spot) : Type 0 where
  pub sketch : Sketch
  pub is : spots ≡ spots_of sketch
  pub small : sketch_weight sketch < 2 ^ 24
  pub light : AreSpotsAtMost k sketch

-- the separator's plan, drawn
abbrev pub separator_plan : Sketch → ℕ → ℕ → Drawn
separator_plan sketch t tolerance = separated t tolerance 0 true true None sketch

-- another plan, where the separator's is too heavy
pub record IsOther (k t tolerance : ℕ) (sketch : Sketch) (d : Drawn) : Type 0 where
  pub heavy : k < heaviest (separator_plan sketch t tolerance)
  pub sound : IsSoundDrawing None d
  pub members : NoneStays d
  pub light : heaviest d ≤ k
  pub full : AreNeighboursHeavy k None d
  pub kept : AreTopsLight k true sketch → AreKept d

-- the division: the separator's plan, with its root raised where that may be, or another plan
abbrev pub IsDrawnDivision : (k room t tolerance : ℕ) → Sketch → Drawn → (raised : Option ℕ) → Type 0
IsDrawnDivision k room t tolerance sketch d raised =
    ((d ≡ raised_plan room t tolerance 0 (separator_plan sketch t tolerance)) × (raised ≡ raised_root room t tolerance 0 (separator_plan sketch t tolerance)) × (heaviest (separator_plan sketch t tolerance) ≤ k))
    ⊎ (IsOther k t tolerance sketch d × (raised ≡ None))
