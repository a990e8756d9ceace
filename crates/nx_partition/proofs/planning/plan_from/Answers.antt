use Rattle.std.proofs.Common.{arith}
use Rattle.nx_partition.proofs.planning.plan_from.Goals as goal

pub part_weights-requires-clause-few : goal.part_weights-requires-clause-few
part_weights-requires-clause-few c =
    let few = c.in_ok-parts.ensures.few in
    let small = c.requires.document.small in
    omega arith

pub returns : goal.returns
returns c = record { partitioning = c.in_ok-parts.ensures.ok; weights = c.in-Ok.ensures.ok.1; bounds = c.requires.minima }
