use Rattle.std.proofs.Common.{refl}
use Rattle.nx_nav.proofs.routing.end_route.Goals as goal

pub into_piece-requires : goal.into_piece-requires
into_piece-requires c = (c.requires.body).trees

pub returns : goal.returns
returns c = λ keeps. (record { passed = c.args.passed; last = c.in_ok-last.last }, refl, refl, c.in_ok-last.ensures)
