-- Where the one part of a layout stands that weighs more than k.
use Rattle.std.specs.Prelude.{◌≡◌, ℕ, ◌<◌, ◌≤◌, Some}
use Rattle.nx_cuts.specs.Cut.{Bare}
use Rattle.nx_layouts.specs.Layout.{Layout, without_places, laid_weight, AreLaidParts}
use Rattle.nx_layouts.specs.Replace.{replaced_at, kept_at}
use Rattle.nx_drawn.specs.Growth.{MayBeHeavy, IsHeavyOnce}

-- The interval with these members stands at an index of a row. Where its part weighs more than k, it may be divided, and no part beside it weighs more; where some part below it does, that is the one, and no part beside it weighs more.
pub record FindsHeavy (k limit wide index : ℕ) (row members : Layout) : Type 0 where
  pub here : k < laid_weight members → AreLaidParts k (replaced_at index Bare row) × MayBeHeavy k limit wide (without_places members)
  pub below : laid_weight members ≤ k → (AreLaidParts k members → ⊥) → AreLaidParts k (replaced_at index Bare row) × IsHeavyOnce k limit wide (without_places members)

-- Where one part of a row at most weighs more than k, it is told so at each index.
abbrev pub HeavyIsThere : Type 0
HeavyIsThere = (k limit wide index : ℕ) (row members : Layout) → IsHeavyOnce k limit wide (without_places row) → kept_at index row ≡ Some members → FindsHeavy k limit wide index row members
