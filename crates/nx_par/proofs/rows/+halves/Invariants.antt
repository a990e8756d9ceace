use Rattle.std.proofs.Common.{◌+◌, ◌*◌}
use Rattle.nx_tree.specs.Forest.{forest_of, nodes}
use Rattle.nx_par.proofs.rows.+halves.Given as goal

abbrev pub decreases-bound_one : goal.decreases-bound_one
decreases-bound_one g l = 4 * nodes l.tree.now.below + 4

abbrev pub decreases-bound_rows : goal.decreases-bound_rows
decreases-bound_rows g l = 4 * nodes (forest_of l.trees.now) + 3

abbrev pub decreases-bound_at_once : goal.decreases-bound_at_once
decreases-bound_at_once g l = 4 * nodes (forest_of l.trees.now) + 2

abbrev pub decreases-bound_in_turn : goal.decreases-bound_in_turn
decreases-bound_in_turn g l = 4 * nodes (forest_of l.trees.now) + 2

abbrev pub decreases-bound_at_once-last : goal.decreases-bound_at_once-last
decreases-bound_at_once-last g l = 4 * nodes (forest_of l.back.now) + 4

abbrev pub decreases-bound_at_once-others : goal.decreases-bound_at_once-others
decreases-bound_at_once-others g l = 4 * nodes (forest_of l.front.now) + 4
