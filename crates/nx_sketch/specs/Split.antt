-- The split of a part of a document that weighs too much, and its division, in which the separator may join the part above.
use Rattle.std.specs.Prelude.{◌≡◌, ℕ, ◌≤◌, true, List, [], ◌∷◌, ◌++◌, length, Option, None, Some, ◌⊎◌}
use Rattle.nx_matrix.specs.declared.rule.Entry.TheVariants.{Standalone}
use Rattle.nx_parts.specs.declared.interval.Interval.{Interval}
use Rattle.nx_parts.specs.declared.interval.Interval.TheVariants.{Run}
use Rattle.nx_parts.specs.Order.{AreInOrder}
use Rattle.nx_sketch.specs.Sketch.{Placed}
use Rattle.nx_sketch.specs.Plan.{HasEntry, IsFeasiblePlan, KeepsClusters, AreComponentsLight, AreNeighboursFull, placed_part_weight}
use Rattle.nx_sketch.specs.Separator.{IsSeparatorPlan, is_marked, point}

-- the separator's plan, which is feasible
pub record IsSeparatorSplit (k : ℕ) (placed : List Placed) (t tolerance : ℕ) (parts : List Interval) : Type 0 where
  pub separator : IsSeparatorPlan placed t tolerance parts
  pub feasible : IsFeasiblePlan k placed parts

-- where the separator's plan isn't feasible: a feasible plan whose neighbours don't fit together, and that cuts no cluster edge where no cluster component is too heavy
pub record IsOtherSplit (k : ℕ) (placed : List Placed) (t tolerance : ℕ) (parts : List Interval) : Type 0 where
  pub separator : List Interval
  pub planned : IsSeparatorPlan placed t tolerance separator
  pub heavy : ¬ IsFeasiblePlan k placed separator
  pub feasible : IsFeasiblePlan k placed parts
  pub full : AreNeighboursFull k placed parts
  pub clusters : AreComponentsLight k placed → KeepsClusters placed parts

-- the intervals that replace a part, in document order of their first members; no root of the list is a cluster child, since one counts as free there
pub record IsSplit (k : ℕ) (placed : List Placed) (target tolerance : ℕ) (parts : List Interval) : Type 0 where
  pub order : AreInOrder parts
  pub divides : IsSeparatorSplit k placed (point placed target) tolerance parts ⊎ IsOtherSplit k placed (point placed target) tolerance parts

-- The separator's plan is feasible, and one of the roots is of the separator, isn't standalone, and has a part in the plan that weighs at most the room: these are the plan's intervals without that root's, so that the nodes of its part join the part above.
pub record IsRaised (k : ℕ) (placed : List Placed) (room t tolerance : ℕ) (parts : List Interval) (root : ℕ) : Type 0 where
  pub before : List Interval
  pub behind : List Interval
  pub split : IsSeparatorSplit k placed t tolerance (before ++ Run [] root root ∷ behind)
  pub marked : is_marked placed t tolerance (root ∷ []) ≡ true
  pub unbound : ¬ HasEntry placed (root ∷ []) Standalone
  pub light : placed_part_weight placed (before ++ Run [] root root ∷ behind) (length before) ≤ room
  pub others : parts ≡ before ++ behind

-- The intervals that replace a part, where there is so much room in the part above, and the root whose part joins that one: there is one exactly where the separator can be raised, and elsewhere the intervals are a split.
abbrev pub IsDivision : (k : ℕ) (placed : List Placed) (room target tolerance : ℕ) (parts : List Interval) (raised : Option ℕ) → Type 0
IsDivision k placed room target tolerance parts None =
    IsSplit k placed target tolerance parts × ((others : List Interval) (root : ℕ) → ¬ IsRaised k placed room (point placed target) tolerance others root)
IsDivision k placed room target tolerance parts (Some root) = IsRaised k placed room (point placed target) tolerance parts root
