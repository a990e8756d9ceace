-- What `plan` makes of its input: a document, which it partitions.
use Rattle.std.specs.Prelude.{◌≡◌, ℕ, List, length, Some}
use Rattle.std.specs.Option.{option_map}
use Rattle.nx_tree.specs.Forest.{OrderedTree}
use Rattle.nx_pyx.specs.Fault.{fault_of}
use Rattle.nx_pyx.specs.Reading.{Reads}
use Rattle.nx_weights.specs.Weight.{first_heavy, weighed, IsAtMost}
use Rattle.nx_parts.specs.declared.plan.Plan.{Plan}
use Rattle.nx_parts.specs.Partitioning.{root_weight}
use Rattle.nx_partition.specs.Planning.{IsPlan}
use Rattle.nx_bounds.specs.PlanText.{plan_text}
use Rattle.nx_filters.specs.declared.refusal.Refusal.{Refusal}
use Rattle.nx_filters.specs.declared.refusal.Refusal.TheVariants.{Pyx, TooHeavy, Bounds}
use Rattle.nx_filters.specs.Outcome.{Meaning}
use Rattle.nx_filters.specs.Tidy.{ShowsDocument}

-- This is a plan of the input's document: a lean optimal partitioning in document order, with its parts' weights and the minima of all nodes.
pub record IsPlannedInput (k : ℕ) (input : List ℕ) (plan : Plan) : Type 0 where
  pub tree : OrderedTree
  pub reads : Reads input tree
  pub planned : IsPlan k tree plan

-- why the input is refused: by its fault, or by the first node of its document that weighs more than k
abbrev pub RefusesToPlan : ℕ → List ℕ → Refusal → Type 0
RefusesToPlan k input (Pyx error) = fault_of input ≡ Some error
RefusesToPlan k input (TooHeavy path slots) = (tree : OrderedTree) × Reads input tree × (option_map weighed (first_heavy k tree) ≡ Some (path, slots))
RefusesToPlan k input (Bounds error) = ⊥

-- The input says a document no node of which weighs more than k.
pub record IsLightInput (k : ℕ) (input : List ℕ) : Type 0 where
  pub tree : OrderedTree
  pub reads : Reads input tree
  pub light : IsAtMost k tree

-- a plan of the input's document, of which there may be several, in its text
abbrev pub plan : ℕ → Meaning
plan k = record { Answer = Plan; text_of = plan_text; says = IsPlannedInput k; refuses = RefusesToPlan k; shows = ShowsDocument }

-- The plans of the tree are as good as each other.
pub record AreEquallyGood (tree : OrderedTree) (first second : Plan) : Type 0 where
  pub intervals : length first.parts ≡ length second.parts
  pub root : root_weight tree first.parts ≡ root_weight tree second.parts
  pub bounds : first.bounds ≡ second.bounds

-- the plans of each input are
abbrev pub HasEqualPlans : ℕ → Type 0
HasEqualPlans k = (input : List ℕ) (tree : OrderedTree) (first second : Plan) → Reads input tree → IsPlannedInput k input first → IsPlannedInput k input second → AreEquallyGood tree first second
