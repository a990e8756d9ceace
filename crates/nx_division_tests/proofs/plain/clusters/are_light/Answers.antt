use Rattle.std.proofs.lemmas.Bool.Decides.{Decides-at}
use Rattle.std.specs.List.{list_all}
use Rattle.nx_division_tests.specs.Tests.{light_test}
use Rattle.nx_division_tests.proofs.PlanLemmas.{light_decides}
use Rattle.nx_division_tests.proofs.plain.clusters.are_light.Goals as goal

pub returns : goal.returns
returns c = Decides-at c.are_all_light.result (list_all (light_test c.args.k c.args.nodes.now) c.args.nodes.now) c.are_all_light.ensures (light_decides c.args.k c.args.nodes.now)
