use Rattle.std.proofs.Common.{sym, ◌∙◌}
use Rattle.nx_division_tests.specs.Tests.{starts_before}
use Rattle.nx_division_tests.proofs.TestLemmas.{pairs_then, pairs_else}
use Rattle.nx_division_tests.proofs.plain.separator.+are_parts_ordered.Goals as goal

pub returns-then-is_first_part : goal.returns-then-is_first_part
returns-then-is_first_part t c = pairs_then starts_before c.in-Some.first.now c.in-Some.rest.now c.in-Some.ensures.cases.0 (sym c.if-is_first_part.true ∙ c.is_first_part.ensures) c.are_parts_ordered.ensures

pub returns-else-is_first_part : goal.returns-else-is_first_part
returns-else-is_first_part t c = pairs_else starts_before c.in-Some.first.now c.in-Some.rest.now c.in-Some.ensures.cases.0 c.if-is_first_part.false c.is_first_part.ensures
