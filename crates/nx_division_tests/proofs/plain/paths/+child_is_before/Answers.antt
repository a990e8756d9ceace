use Rattle.std.proofs.Common.{length, ◌≡◌, arith}
use Rattle.nx_division_tests.proofs.PathLemmas.{before_short}
use Rattle.nx_division_tests.proofs.plain.paths.+child_is_before.Goals as goal

pub returns-in-Some-None : goal.returns-in-Some-None
returns-in-Some-None t c =
    before_short c.args.other.now c.args.position c.args.other_position c.in-Some-None.step.now c.in-Some-None.field-0-1-0.now c.in-Some-None.ensures.cases.0
    (let none : length c.args.other.now ≡ 0 = let e = c.in-Some-None.ensures'.cases in omega arith in none)
