use Rattle.nx_sketch.specs.Plan.{AreComponentsLight, AreNeighboursFull, KeepsClusters}
use Rattle.nx_division_tests.proofs.TestLemmas.{both_then, both_else}
use Rattle.nx_division_tests.proofs.plain.split.is_full_and_keeps_clusters.Goals as goal

pub returns-then-are_neighbours_full : goal.returns-then-are_neighbours_full
returns-then-are_neighbours_full c =
    both_then {P = AreNeighboursFull c.args.k c.args.nodes.now c.args.parts.now} {Q = (AreComponentsLight c.args.k c.args.nodes.now → KeepsClusters c.args.nodes.now c.args.parts.now)} c.keeps_light_clusters.result (c.are_neighbours_full.ensures.0 c.if-are_neighbours_full.true) c.keeps_light_clusters.ensures

pub returns-else-are_neighbours_full : goal.returns-else-are_neighbours_full
returns-else-are_neighbours_full c =
    both_else {P = AreNeighboursFull c.args.k c.args.nodes.now c.args.parts.now} {Q = (AreComponentsLight c.args.k c.args.nodes.now → KeepsClusters c.args.nodes.now c.args.parts.now)} c.are_neighbours_full.result c.if-are_neighbours_full.false c.are_neighbours_full.ensures
