-- What a certificate says, and why a plan isn't certified: the first reason that applies.
use Rattle.std.specs.Prelude.{◌≡◌, ◌≢◌, ℕ, ◌+◌, ◌<◌, ◌≤◌, List, [], ◌∷◌, length, Some, slice_get, slice_index}
use Rattle.nx_tree.specs.Forest.{OrderedTree, nodes}
use Rattle.nx_parts.specs.declared.bounds.Bound.{Bound}
use Rattle.nx_parts.specs.declared.plan.Plan.{Plan}
use Rattle.nx_parts.specs.declared.error.PartsError.{PartsError}
use Rattle.nx_parts.specs.declared.error.PartsError.TheVariants as parts_error
use Rattle.nx_parts.specs.Partitioning.{IsFeasible, IsOptimal, owned_weight}
use Rattle.nx_parts.specs.Refusal.{IsFirst, IsNotFeasible}
use Rattle.nx_choices.specs.declared.child.Field.{Field}
use Rattle.nx_bounds.specs.declared.error.BoundsError.{BoundsError}
use Rattle.nx_bounds.specs.declared.error.BoundsError.TheVariants.{Parts, WrongWeight, Length, Unsupported, Count, BadPlanLine, Memory}
use Rattle.nx_choices.specs.Claim.{Claimed, claim, AreSupportedBefore, IsSupported, IsExceeded}
use Rattle.nx_bounds.specs.Claim.{claimed, AreSupported}

-- the refusal of a list of intervals as one of a plan
abbrev pub error_of_parts : PartsError → BoundsError
error_of_parts parts_error.Memory = Memory
error_of_parts error = Parts error

-- The bound at this place in document order is the first that isn't supported, and this is its first number that isn't: what is claimed is more than what was found.
pub record IsUnsupported (k : ℕ) (tree : OrderedTree) (bounds : List Bound) (place : ℕ) (field : Field) (claimed_number found : ℕ) : Type 0 where
  pub one_each : length bounds ≡ 1 + nodes tree.below
  pub node : Claimed
  pub there : slice_get (claimed k tree bounds) place ≡ Some node
  pub before : (earlier : ℕ) (other : Claimed) → earlier < place → slice_get (claimed k tree bounds) earlier ≡ Some other → IsSupported k other
  pub fields_before : AreSupportedBefore k field node
  pub is_claimed : claimed_number ≡ claim field node.bound
  pub exceeded : IsExceeded k field node found

-- why the bounds aren't supported
abbrev pub IsNotSupported : ℕ → OrderedTree → List Bound → BoundsError → Type 0
IsNotSupported k tree bounds (Length number_of_bounds number_of_nodes) =
    (length bounds ≢ 1 + nodes tree.below) × (number_of_bounds ≡ length bounds) × (number_of_nodes ≡ 1 + nodes tree.below)
IsNotSupported k tree bounds (Unsupported node field claimed_number found) = IsUnsupported k tree bounds node field claimed_number found
IsNotSupported k tree bounds Memory = Unit {0}
IsNotSupported k tree bounds _ = ⊥

-- the weight that is claimed of the part at this place isn't what it weighs, where a missing weight counts as 0
abbrev pub IsWrong : OrderedTree → Plan → ℕ → Type 0
IsWrong tree plan index = (index < length plan.parts) × (slice_index plan.weights index ≢ owned_weight tree plan.parts index)

-- what the bound of the root says of the number of intervals
abbrev pub root_least : List Bound → ℕ
root_least [] = 0
root_least (bound ∷ bounds) = bound.least

-- The plan is sound: its intervals are a feasible partitioning with these weights, the bounds are supported, and there are no more intervals than the root's bound says.
pub record IsSoundPlan (k : ℕ) (tree : OrderedTree) (plan : Plan) : Type 0 where
  pub feasible : IsFeasible k tree plan.parts
  pub weights : (index : ℕ) → index < length plan.parts → slice_index plan.weights index ≡ owned_weight tree plan.parts index
  pub supported : AreSupported k tree plan.bounds
  pub enough : length plan.parts ≤ root_least plan.bounds

-- The plan is certified: it is sound, and so no feasible partitioning has fewer intervals.
pub record IsCertified (k : ℕ) (tree : OrderedTree) (plan : Plan) : Type 0 where
  pub sound : IsSoundPlan k tree plan
  pub optimal : IsOptimal k tree plan.parts

-- why the plan isn't certified
abbrev pub IsNotCertified : ℕ → OrderedTree → Plan → BoundsError → Type 0
IsNotCertified k tree plan (Parts error) = (error ≢ parts_error.Memory) × IsNotFeasible k tree plan.parts error
IsNotCertified k tree plan (WrongWeight index claimed_weight found) =
    IsFeasible k tree plan.parts × IsFirst (IsWrong tree plan) index
    × (claimed_weight ≡ slice_index plan.weights index) × (found ≡ owned_weight tree plan.parts index)
IsNotCertified k tree plan (Length number_of_bounds number_of_nodes) =
    IsFeasible k tree plan.parts × ((index : ℕ) → ¬ IsWrong tree plan index) × IsNotSupported k tree plan.bounds (Length number_of_bounds number_of_nodes)
IsNotCertified k tree plan (Unsupported node field claimed_number found) =
    IsFeasible k tree plan.parts × ((index : ℕ) → ¬ IsWrong tree plan index)
    × IsNotSupported k tree plan.bounds (Unsupported node field claimed_number found)
IsNotCertified k tree plan (Count number_of_intervals bound) =
    IsFeasible k tree plan.parts × ((index : ℕ) → ¬ IsWrong tree plan index) × AreSupported k tree plan.bounds
    × (root_least plan.bounds < length plan.parts) × (number_of_intervals ≡ length plan.parts) × (bound ≡ root_least plan.bounds)
IsNotCertified k tree plan (BadPlanLine line) = ⊥
IsNotCertified k tree plan Memory = Unit {0}
