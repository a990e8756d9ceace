use Rattle.std.proofs.Common.{◌≡◌, ◌++◌, List, ℕ, drop}
use Rattle.nx_tree.specs.Forest.{nodes, forest_of}
use Rattle.nx_reach.specs.Fit.{found_in}
use Rattle.nx_reach.specs.Stand.{IsStateAt}
use Rattle.nx_reach.proofs.plain.+walk.Given as goal

abbrev pub invariant-loop-position : goal.invariant-loop-position
invariant-loop-position l = record {
  path : l.path ≡ l.fn.path;
  state : l.state ≡ l.fn.state;
  found : (labels : List (List ℕ)) → IsStateAt l.state labels →
      l.found ++ found_in l.fn.state.steps.now labels l.fn.path l.position (forest_of (drop l.position l.trees))
      ≡ l.fn.found ++ found_in l.fn.state.steps.now labels l.fn.path 0 (forest_of l.trees);
}

abbrev pub decreases-walk : goal.decreases-walk
decreases-walk l = nodes (forest_of l.trees.now)
