use Rattle.std.proofs.lemmas.Bool.Decides.{Decides-at}
use Rattle.nx_division_tests.specs.Tests.{neighbours_test}
use Rattle.nx_division_tests.proofs.PlanLemmas.{neighbours_decides}
use Rattle.nx_division_tests.proofs.plain.neighbours.are_neighbours_full.Goals as goal

pub returns : goal.returns
returns c = Decides-at c.are_all_full.result (neighbours_test c.args.k c.args.nodes.now c.args.parts.now) c.are_all_full.ensures (neighbours_decides c.args.k c.args.nodes.now c.args.parts.now)
