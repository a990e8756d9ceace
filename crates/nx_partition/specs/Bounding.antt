-- What the search for the minima of all nodes gives.
use Rattle.std.specs.Prelude.{◌≡◌, ℕ, List, ◌++◌, Some}
use Rattle.std.specs.Option.{option_map}
use Rattle.nx_tree.specs.Forest.{OrderedTree, Forest}
use Rattle.nx_weights.specs.Weight.{first_heavy, weighed, IsAtMost, AreAtMost}
use Rattle.nx_parts.specs.declared.bounds.Bound.{Bound}
use Rattle.nx_parts.specs.Minima.{AreMinima}
use Rattle.nx_partition.specs.declared.error.PlanError.{PlanError}
use Rattle.nx_partition.specs.declared.error.PlanError.TheVariants.{TooHeavy, Memory}
use Rattle.nx_partition.specs.declared.error.BoundError.{BoundError}
use Rattle.nx_partition.specs.declared.error.BoundError.TheVariants as bound

-- the list has grown by the minima of the nodes of a tree
pub record Extends (k : ℕ) (tree : OrderedTree) (old new : List Bound) : Type 0 where
  pub bounds : List Bound
  pub added : new ≡ old ++ bounds
  pub minima : AreMinima k tree bounds

-- the first node in document order that weighs more than k stands at the path and weighs so much
abbrev pub IsPlanRefused : ℕ → OrderedTree → PlanError → Type 0
IsPlanRefused k tree (TooHeavy path slots) = option_map weighed (first_heavy k tree) ≡ Some (path, slots)
IsPlanRefused k tree Memory = Unit {0}

-- Why the minima of a tree's nodes weren't found: a node of it weighs more than k, or there was no memory.
abbrev pub IsBoundRefused : ℕ → OrderedTree → BoundError → Type 0
IsBoundRefused k tree bound.TooHeavy = IsAtMost k tree → ⊥
IsBoundRefused k tree bound.Memory = Unit {0}

-- Why those of the nodes of several trees weren't.
abbrev pub AreBoundsRefused : ℕ → Forest → BoundError → Type 0
AreBoundsRefused k trees bound.TooHeavy = AreAtMost k trees → ⊥
AreBoundsRefused k trees bound.Memory = Unit {0}
