use Rattle.std.proofs.Common.{sym, ◌∙◌}
use Rattle.nx_division_tests.specs.Tests.{apart_test}
use Rattle.nx_division_tests.proofs.TestLemmas.{pairs_then, pairs_else}
use Rattle.nx_division_tests.proofs.plain.plans.+are_disjoint.Goals as goal

pub returns-then-is_apart : goal.returns-then-is_apart
returns-then-is_apart t c = pairs_then apart_test c.in-Some.first.now c.in-Some.rest.now c.in-Some.ensures.cases.0 (sym c.if-is_apart.true ∙ c.is_apart.ensures) c.are_disjoint.ensures

pub returns-else-is_apart : goal.returns-else-is_apart
returns-else-is_apart t c = pairs_else apart_test c.in-Some.first.now c.in-Some.rest.now c.in-Some.ensures.cases.0 c.if-is_apart.false c.is_apart.ensures
