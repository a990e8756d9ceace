use Rattle.std.proofs.Common.{◌≡◌, ◌+◌, length, subst, arith}
use Rattle.nx_division_tests.specs.Grown.{IsGrown}
use Rattle.nx_division_tests.proofs.SketchLemmas.{grown, none_grown}
use Rattle.nx_division_tests.proofs.sketches.+weigh.Goals as goal

pub returns-in_default : goal.returns-in_default
returns-in_default t c = none_grown c.args.spots.now (let none : length c.args.spots.now ≡ 0 = let e = c.in_default.ensures.cases in omega arith in none)

pub returns-then-is_sum : goal.returns-then-is_sum
returns-then-is_sum t c =
    grown {k = c.args.k} {low = c.args.low} c.in-Some.spot.now c.in-Some.rest.now c.in_ok-inner.inner c.in_ok-others.others c.in-Some.ensures.cases.0 (omega arith)
    (c.is_allowed.ensures c.if-not-is_allowed.false, c.is_sum.ensures c.if-is_sum.true)
    (subst (λ l. IsGrown c.args.k 0 l c.in_ok-inner.inner) c.split_at.ensures.front c.in_ok-inner.ensures, subst (λ l. IsGrown c.args.k (c.in-Some.spot.now.position + 1) l c.in_ok-others.others) c.split_at.ensures.back c.in_ok-others.ensures)
