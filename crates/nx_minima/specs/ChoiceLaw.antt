-- The minima of a node's subtree are what the least choices over its children's minima give.
use Rattle.std.specs.Prelude.{◌≡◌, ◌↔◌, ℕ, ◌+◌, ◌≤◌, List}
use Rattle.nx_tree.specs.declared.node.Node.{Node}
use Rattle.nx_tree.specs.Forest.{OrderedTree, nodes}
use Rattle.nx_weights.specs.Weight.{weight}
use Rattle.nx_parts.specs.declared.bounds.Bound.{Bound}
use Rattle.nx_choices.specs.declared.child.Child.{Child}
use Rattle.nx_choices.specs.Choice.{Cell, IsAdmitted, count, left}
use Rattle.nx_choices.specs.Least.{IsLeastChoice}
use Rattle.nx_minima.specs.Seen.{as_child, seen}
use Rattle.nx_cuts.specs.Cut.{CutTree, tree_of, parts_of}
use Rattle.nx_minima.specs.Drawing.{Reaches, AreReached, IsReachable, forms, drawing, forest_under}
use Rattle.nx_parts.specs.Minima.{IsMinima, AreMinimaOf, IsLeanOptimal}

-- A choice is drawn: the drawing has at most as many intervals as the choice counts, and leaves with the node at most what the choice leaves.
abbrev pub ChoiceIsDrawn : Type 0
ChoiceIsDrawn =
    (k : ℕ) (node : Node) (children : List Child) (cells : List Cell) (trees : List CutTree)
    → IsAdmitted k (weight node) children cells → AreReached k (forms cells) trees
    → (tree_of (record { node = node; below = drawing cells trees }) ≡ record { node = node; below = forest_under trees })
    × Reaches k (count cells) (weight node + left cells) (record { node = node; below = drawing cells trees })

-- Where the bounds are the minima of the children, each admitted choice is reached by a feasible partitioning.
abbrev pub ChoicesAreReached : Type 0
ChoicesAreReached =
    (k : ℕ) (tree : OrderedTree) (bounds : List Bound) → AreMinimaOf k tree.below bounds
    → (cells : List Cell) → IsAdmitted k (weight tree.node) (seen bounds) cells → IsReachable k (count cells) (weight tree.node + left cells) tree

-- Where they are, the minima of the tree are what the least admitted choices give.
abbrev pub MinimaAreLeastChoices : Type 0
MinimaAreLeastChoices =
    (k : ℕ) (tree : OrderedTree) (bound : Bound) (bounds : List Bound) → AreMinimaOf k tree.below bounds
    → IsMinima k tree bound ↔ IsLeastChoice k (weight tree.node) (seen bounds) (as_child bound)

-- A drawing that reaches the first two minima of a tree is a lean optimal partitioning.
abbrev pub DrawnIsLean : Type 0
DrawnIsLean = (k : ℕ) (bound : Bound) (t : CutTree) → IsMinima k (tree_of t) bound → Reaches k bound.least bound.lean t → IsLeanOptimal k (tree_of t) (parts_of t)

-- A tree has one triple of minima.
abbrev pub MinimaAreOne : Type 0
MinimaAreOne = (k : ℕ) (tree : OrderedTree) (b c : Bound) → IsMinima k tree b → IsMinima k tree c → (b.least ≡ c.least) × (b.lean ≡ c.lean) × (b.nearly ≡ c.nearly)

-- What the minima of a tree are at least, and at most.
pub record IsWithinBounds (k : ℕ) (tree : OrderedTree) (bound : Bound) : Type 0 where
  pub some : 1 ≤ bound.least
  pub few : bound.least ≤ 1 + nodes tree.below
  pub own : weight tree.node ≤ bound.nearly
  pub no_more : bound.nearly ≤ bound.lean
  pub light : bound.lean ≤ k

abbrev pub MinimaAreWithinBounds : Type 0
MinimaAreWithinBounds = (k : ℕ) (tree : OrderedTree) (bound : Bound) → IsMinima k tree bound → IsWithinBounds k tree bound
