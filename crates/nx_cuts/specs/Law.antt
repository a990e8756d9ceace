-- A tree with its intervals drawn in is a feasible partitioning, and each feasible partitioning is one.
use Rattle.std.specs.Prelude.{◌≡◌, ℕ, ◌+◌, ◌≤◌, List, IsPermutation}
use Rattle.nx_tree.specs.Forest.{OrderedTree}
use Rattle.nx_weights.specs.Weight.{weight}
use Rattle.nx_parts.specs.declared.interval.Interval.{Interval}
use Rattle.nx_parts.specs.Order.{AreInOrder}
use Rattle.nx_parts.specs.Partitioning.{IsFeasible}
use Rattle.nx_cuts.specs.Cut.{CutTree, AreParts, part_weight, tree_of, parts_of}

-- A tree with its intervals drawn in, none of whose parts outweighs k, is feasibly cut.
abbrev pub DrawnIsFeasible : Type 0
DrawnIsFeasible = (k : ℕ) (t : CutTree) → weight t.node + part_weight t.below ≤ k → AreParts k t.below → IsFeasible k (tree_of t) (parts_of t)

-- A partitioning drawn in: the tree, the same intervals, no part too heavy.
pub record IsCut (k : ℕ) (tree : OrderedTree) (ps : List Interval) : Type 0 where
  pub document : CutTree
  pub tree_is : tree_of document ≡ tree
  pub parts_are : IsPermutation (parts_of document) ps
  pub light : AreParts k document.below
  pub root_light : weight tree.node + part_weight document.below ≤ k

-- Each feasible partitioning can be drawn in.
abbrev pub FeasibleIsDrawn : Type 0
FeasibleIsDrawn = (k : ℕ) (tree : OrderedTree) (ps : List Interval) → IsFeasible k tree ps → IsCut k tree ps

-- The intervals of a tree are drawn in document order of their first members.
abbrev pub DrawnIsInOrder : Type 0
DrawnIsInOrder = (k : ℕ) (t : CutTree) → AreParts k t.below → AreInOrder (parts_of t)
