-- Each plan has one verdict.
use Rattle.std.specs.Prelude.{◌≡◌, ◌≢◌, ℕ}
use Rattle.nx_tree.specs.Forest.{OrderedTree}
use Rattle.nx_parts.specs.declared.plan.Plan.{Plan}
use Rattle.nx_bounds.specs.declared.error.BoundsError.{BoundsError}
use Rattle.nx_bounds.specs.declared.error.BoundsError.TheVariants.{Memory}
use Rattle.nx_bounds.specs.Refusal.{IsSoundPlan, IsNotCertified}

-- of a plan that is sound nothing but want of memory can be said
abbrev pub IsSparedRefusals : Type 0
IsSparedRefusals = (k : ℕ) (tree : OrderedTree) (plan : Plan) (error : BoundsError) → IsSoundPlan k tree plan → IsNotCertified k tree plan error → error ≡ Memory

-- of a plan that isn't certified one thing can be said beside want of memory
abbrev pub HasOneRefusal : Type 0
HasOneRefusal =
    (k : ℕ) (tree : OrderedTree) (plan : Plan) (first second : BoundsError) → IsNotCertified k tree plan first → IsNotCertified k tree plan second
    → first ≢ Memory → second ≢ Memory → first ≡ second

-- a plan of which nothing but want of memory can be said is sound
abbrev pub HasVerdict : Type 0
HasVerdict = (k : ℕ) (tree : OrderedTree) (plan : Plan) → ((error : BoundsError) → IsNotCertified k tree plan error → error ≡ Memory) → IsSoundPlan k tree plan
