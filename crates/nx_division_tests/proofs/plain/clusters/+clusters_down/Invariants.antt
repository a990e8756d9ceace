use Rattle.std.proofs.Common.{length, ◌-◌}
use Rattle.nx_division_tests.proofs.plain.clusters.+clusters_down.Given as goal

abbrev pub decreases-clusters_down : goal.decreases-clusters_down
decreases-clusters_down l = length l.path.now - l.from
