use Rattle.nx_parts.specs.Order.{ComesBefore, first_member}
use Rattle.nx_division_tests.proofs.PathLemmas.{starts_decides}
use Rattle.std.proofs.lemmas.Bool.Decides.{Decides-at}
use Rattle.nx_division_tests.specs.Tests.{pairs_test, starts_before}
use Rattle.nx_division_tests.proofs.TestLemmas.{pairs_decides}
use Rattle.nx_division_tests.proofs.plain.separator.is_in_order.Goals as goal

pub returns : goal.returns
returns c = Decides-at c.are_parts_ordered.result (pairs_test starts_before c.args.parts.now) c.are_parts_ordered.ensures (pairs_decides starts_before (λ a b. ComesBefore (first_member a) (first_member b)) starts_decides c.args.parts.now)
