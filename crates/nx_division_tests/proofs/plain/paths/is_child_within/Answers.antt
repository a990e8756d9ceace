use Rattle.std.proofs.Common.{length, ◌≡◌, sym, ◌∙◌, arith}
use Rattle.nx_division_tests.proofs.PathLemmas.{member_then, member_else, member_none}
use Rattle.nx_division_tests.proofs.plain.paths.is_child_within.Goals as goal

pub returns-then-eq : goal.returns-then-eq
returns-then-eq c = member_then c.args.parent.now c.in-Some.front.now c.args.first c.args.last c.in-Some.position.now c.in-Some.ensures.cases.0 (sym c.if-eq.true ∙ c.eq.ensures) c.is_within.ensures

pub returns-else-eq : goal.returns-else-eq
returns-else-eq c = member_else c.args.parent.now c.in-Some.front.now c.args.first c.args.last c.in-Some.position.now c.in-Some.ensures.cases.0 c.if-eq.false c.eq.ensures

pub returns-in_default : goal.returns-in_default
returns-in_default c = member_none c.args.parent.now c.args.path.now c.args.first c.args.last (let none : length c.args.path.now ≡ 0 = let e = c.in_default.ensures.cases in omega arith in none)
