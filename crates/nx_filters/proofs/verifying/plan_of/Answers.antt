use Rattle.std.proofs.Common.{List, ℕ, IfOk, subst}
use Rattle.nx_bounds.specs.PlanText.{ReadsAs}
use Rattle.nx_filters.proofs.VerifyLemmas.{read_few}
use Rattle.nx_filters.proofs.verifying.plan_of.Goals as goal

pub returns-clause-lengths : goal.returns-clause-lengths
returns-clause-lengths c =
    read_few c.args.text c.read_plan.result c.requires.few (subst (λ (t : List ℕ). IfOk c.read_plan.result (λ plan. ReadsAs t plan)) c.as_slice.ensures c.read_plan.ensures.ok)
