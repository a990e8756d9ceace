use Rattle.std.proofs.lemmas.Bool.Decides.{Decides-at}
use Rattle.std.specs.List.{list_all}
use Rattle.nx_division_tests.specs.Tests.{kept_test}
use Rattle.nx_division_tests.proofs.PlanLemmas.{kept_decides}
use Rattle.nx_division_tests.proofs.plain.clusters.keeps_clusters.Goals as goal

pub returns : goal.returns
returns c = Decides-at c.are_kept.result (list_all (kept_test c.args.parts.now) c.args.nodes.now) c.are_kept.ensures (kept_decides c.args.nodes.now c.args.parts.now)
