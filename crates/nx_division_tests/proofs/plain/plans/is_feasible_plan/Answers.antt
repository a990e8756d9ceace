use Rattle.std.proofs.lemmas.Bool.Decides.{Decides-at}
use Rattle.nx_division_tests.specs.Tests.{feasible_test}
use Rattle.nx_division_tests.proofs.PlanLemmas.{feasible_decides}
use Rattle.nx_division_tests.proofs.plain.plans.is_feasible_plan.Goals as goal

pub returns : goal.returns
returns c =
    Decides-at c.is_feasible.result (feasible_test c.args.k c.args.nodes.now c.args.parts.now) c.is_feasible.ensures (feasible_decides c.args.k c.args.nodes.now c.args.parts.now)
