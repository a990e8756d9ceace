use Rattle.nx_sketch.specs.Plan.{AreComponentsLight, AreNeighboursFull, IsFeasiblePlan, KeepsClusters}
use Rattle.nx_division_tests.proofs.TestLemmas.{both_then, both_else}
use Rattle.nx_division_tests.proofs.plain.split.is_other.Goals as goal

pub returns-then-is_feasible_plan : goal.returns-then-is_feasible_plan
returns-then-is_feasible_plan c =
    both_then {P = IsFeasiblePlan c.args.k c.args.nodes.now c.args.parts.now} {Q = (AreNeighboursFull c.args.k c.args.nodes.now c.args.parts.now × (AreComponentsLight c.args.k c.args.nodes.now → KeepsClusters c.args.nodes.now c.args.parts.now))} c.is_full_and_keeps_clusters.result (c.is_feasible_plan.ensures.0 c.if-is_feasible_plan.true) c.is_full_and_keeps_clusters.ensures

pub returns-else-is_feasible_plan : goal.returns-else-is_feasible_plan
returns-else-is_feasible_plan c =
    both_else {P = IsFeasiblePlan c.args.k c.args.nodes.now c.args.parts.now} {Q = (AreNeighboursFull c.args.k c.args.nodes.now c.args.parts.now × (AreComponentsLight c.args.k c.args.nodes.now → KeepsClusters c.args.nodes.now c.args.parts.now))} c.is_feasible_plan.result c.if-is_feasible_plan.false c.is_feasible_plan.ensures
