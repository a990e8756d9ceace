use Rattle.std.specs.Bool.{IsTrue}
use Rattle.nx_sketch.specs.Separator.{is_before}
use Rattle.std.proofs.lemmas.Bool.Decides.{Decides-at}
use Rattle.nx_division_tests.specs.Tests.{comes_test, pairs_test}
use Rattle.nx_division_tests.proofs.TestLemmas.{pairs_decides}
use Rattle.nx_division_tests.proofs.plain.separator.are_ordered.Goals as goal

pub returns : goal.returns
returns c = Decides-at c.are_nodes_ordered.result (pairs_test comes_test c.args.nodes.now) c.are_nodes_ordered.ensures (pairs_decides comes_test (λ a b. IsTrue (is_before a.path b.path)) (λ a b. (λ h. h, λ h. h)) c.args.nodes.now)
