use Rattle.std.proofs.Common.{refl}
use Rattle.nx_division.proofs.SpotLemmas.{enough, parted}
use Rattle.nx_division_tests.proofs.nodes.parts.Goals as goal

pub split_at-requires : goal.split_at-requires
split_at-requires c = enough c.args.spots.now c.in_ok-spot.spot.now c.in_ok-spot.rest.now c.in_ok-spot.ensures.cases.0 c.requires.sketch c.requires.is

pub returns-clause-cases : goal.returns-clause-cases
returns-clause-cases c =
    parted c.args.spots.now c.in_ok-spot.spot.now c.in_ok-spot.rest.now c.split_at.result.0.now c.split_at.result.1.now c.in_ok-spot.spot.now.below
    c.in_ok-spot.ensures.cases.0 refl c.split_at.ensures.front c.split_at.ensures.back
