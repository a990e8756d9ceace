use Rattle.std.proofs.Common.{sym, ◌∙◌}
use Rattle.nx_division_tests.specs.Tests.{comes_test}
use Rattle.nx_division_tests.proofs.TestLemmas.{pairs_then, pairs_else}
use Rattle.nx_division_tests.proofs.plain.separator.+are_nodes_ordered.Goals as goal

pub returns-then-is_first_node : goal.returns-then-is_first_node
returns-then-is_first_node t c = pairs_then comes_test c.in-Some.first.now c.in-Some.rest.now c.in-Some.ensures.cases.0 (sym c.if-is_first_node.true ∙ c.is_first_node.ensures) c.are_nodes_ordered.ensures

pub returns-else-is_first_node : goal.returns-else-is_first_node
returns-else-is_first_node t c = pairs_else comes_test c.in-Some.first.now c.in-Some.rest.now c.in-Some.ensures.cases.0 c.if-is_first_node.false c.is_first_node.ensures
