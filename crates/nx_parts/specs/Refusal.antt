-- Why a list of intervals is no feasible partitioning of a tree: the first reason, and the first interval that gives it.
use Rattle.std.specs.Prelude.{◌≡◌, ℕ, ◌<◌, List, length, Some, IsTrue, slice_get, Contains}
use Rattle.nx_tree.specs.Forest.{OrderedTree}
use Rattle.nx_parts.specs.declared.interval.Interval.{Interval}
use Rattle.nx_parts.specs.declared.interval.Interval.TheVariants.{Root}
use Rattle.nx_parts.specs.declared.error.PartsError.{PartsError}
use Rattle.nx_parts.specs.declared.error.PartsError.TheVariants.{OutOfTree, Overlap, NoRoot, Heavy, Memory}
use Rattle.nx_parts.specs.Partitioning.{is_in_tree, ShareMember, IsPartitioning, owned_weight}

-- the interval at that place isn't in the tree
abbrev pub IsOutOfTree : OrderedTree → List Interval → ℕ → Type 0
IsOutOfTree tree parts index = (interval : Interval) × (slice_get parts index ≡ Some interval) × (¬ IsTrue (is_in_tree tree interval))

-- the interval at that place shares a member with an earlier one
abbrev pub Overlaps : List Interval → ℕ → Type 0
Overlaps parts index =
    (interval : Interval) × (earlier : ℕ) × (other : Interval)
    × (slice_get parts index ≡ Some interval) × (earlier < index) × (slice_get parts earlier ≡ Some other) × ShareMember interval other

-- it is the least number of which P holds
pub record IsFirst (P : ℕ → Type 0) (index : ℕ) : Type 0 where
  pub holds : P index
  pub before : (earlier : ℕ) → earlier < index → ¬ P earlier

-- why a list of intervals is no partitioning of the tree
abbrev pub IsNoPartitioning : OrderedTree → List Interval → PartsError → Type 0
IsNoPartitioning tree parts (OutOfTree index) = IsFirst (IsOutOfTree tree parts) index
IsNoPartitioning tree parts (Overlap index) = ((i : ℕ) → ¬ IsOutOfTree tree parts i) × IsFirst (Overlaps parts) index
IsNoPartitioning tree parts NoRoot = ((i : ℕ) → ¬ IsOutOfTree tree parts i) × ((i : ℕ) → ¬ Overlaps parts i) × (¬ Contains parts Root)
IsNoPartitioning tree parts (Heavy index slots) = ⊥
IsNoPartitioning tree parts Memory = Unit {0}

-- the part of the interval at that place weighs more than k
abbrev pub IsHeavy : ℕ → OrderedTree → List Interval → ℕ → Type 0
IsHeavy k tree parts index = (index < length parts) × (k < owned_weight tree parts index)

-- why a list of intervals is no feasible partitioning of the tree
abbrev pub IsNotFeasible : ℕ → OrderedTree → List Interval → PartsError → Type 0
IsNotFeasible k tree parts (Heavy index slots) =
    IsPartitioning tree parts × IsFirst (IsHeavy k tree parts) index × (slots ≡ owned_weight tree parts index)
IsNotFeasible k tree parts error = IsNoPartitioning tree parts error
