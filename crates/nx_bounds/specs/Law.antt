-- The laws of bounds: supported ones are true of every feasible partitioning, and minima are supported.
use Rattle.std.specs.Prelude.{◌≡◌, ℕ, ◌+◌, ◌≤◌, List, length, Some, slice_get}
use Rattle.nx_tree.specs.declared.node.Node.{Node}
use Rattle.nx_tree.specs.Forest.{OrderedTree}
use Rattle.nx_tree.specs.Edit.{at}
use Rattle.nx_weights.specs.Weight.{listed}
use Rattle.nx_parts.specs.declared.interval.Interval.{Interval}
use Rattle.nx_parts.specs.declared.bounds.Bound.{Bound}
use Rattle.nx_parts.specs.Minima.{AreMinima}
use Rattle.nx_parts.specs.Partitioning.{IsFeasible, root_weight}
use Rattle.nx_bounds.specs.Claim.{AreSupported}

-- The bound is true of this partitioning of the tree.
pub record IsTrueOf (bound : Bound) (tree : OrderedTree) (parts : List Interval) : Type 0 where
  pub least : bound.least ≤ length parts
  pub lean : length parts ≤ bound.least → bound.lean ≤ root_weight tree parts
  pub nearly : length parts ≤ bound.least + 1 → bound.nearly ≤ root_weight tree parts

-- Where bounds are supported, the bound of each node is true of every feasible partitioning of its subtree.
abbrev pub LowerBound : Type 0
LowerBound =
    (k : ℕ) (tree : OrderedTree) (bounds : List Bound) → AreSupported k tree bounds
    → (number : ℕ) (path : List ℕ) (node : Node) (bound : Bound) (subtree : OrderedTree)
    → slice_get (listed tree) number ≡ Some (path, node) → slice_get bounds number ≡ Some bound → at tree path ≡ Some subtree
    → (parts : List Interval) → IsFeasible k subtree parts → IsTrueOf bound subtree parts

-- The minima of all nodes are supported.
abbrev pub MinimaAreSupported : Type 0
MinimaAreSupported = (k : ℕ) (tree : OrderedTree) (bounds : List Bound) → AreMinima k tree bounds → AreSupported k tree bounds
