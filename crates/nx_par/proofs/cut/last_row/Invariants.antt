use Rattle.std.proofs.Common.{◌≡◌, ◌≤◌, ◌<◌, drop, length}
use Rattle.nx_tree.specs.Forest.{forest_of, nodes}
use Rattle.nx_par.proofs.cut.last_row.Given as goal

abbrev pub decreases-loop-at : goal.decreases-loop-at
decreases-loop-at l = l.at

abbrev pub invariant-loop-at : goal.invariant-loop-at
invariant-loop-at l = (1 ≤ l.at) × (l.at < length l.trees) × (l.behind ≡ nodes (forest_of (drop l.at l.trees)))
