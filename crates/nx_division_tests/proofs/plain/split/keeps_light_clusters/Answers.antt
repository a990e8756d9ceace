use Rattle.std.proofs.lemmas.Bool.Decides.{not_from_Decides}
use Rattle.nx_sketch.specs.Plan.{AreComponentsLight, KeepsClusters}
use Rattle.nx_division_tests.proofs.TestLemmas.{implies_then, implies_else}
use Rattle.nx_division_tests.proofs.plain.split.keeps_light_clusters.Goals as goal

pub returns-then-are_light : goal.returns-then-are_light
returns-then-are_light c =
    implies_then {P = AreComponentsLight c.args.k c.args.nodes.now} {Q = KeepsClusters c.args.nodes.now c.args.parts.now} c.keeps_clusters.result (c.are_light.ensures.0 c.if-are_light.true) c.keeps_clusters.ensures

pub returns-else-are_light : goal.returns-else-are_light
returns-else-are_light c =
    implies_else {P = AreComponentsLight c.args.k c.args.nodes.now} {Q = KeepsClusters c.args.nodes.now c.args.parts.now} (not_from_Decides c.are_light.result c.are_light.ensures c.if-are_light.false)
