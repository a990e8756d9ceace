-- When what is claimed of the nodes of a tree is supported: at each node, by every choice over what is claimed of its children.
use Rattle.std.specs.Prelude.{◌≡◌, ℕ, ◌+◌, List, [], ◌∷◌, ◌++◌, length, drop, max, min}
use Rattle.std.specs.List.{AllByRecursion}
use Rattle.nx_tree.specs.declared.node.Node.{Node}
use Rattle.nx_tree.specs.Forest.{OrderedTree, Forest, Empty, Plant, nodes}
use Rattle.nx_weights.specs.Weight.{weight}
use Rattle.nx_parts.specs.declared.bounds.Bound.{Bound}
use Rattle.nx_choices.specs.declared.child.Child.{Child}
use Rattle.nx_choices.specs.Claim.{Claimed, IsSupported}
use Rattle.nx_minima.specs.Seen.{as_child}

-- what a claimed weight counts as: at least the node's own weight, and at most k
abbrev pub counts_as : ℕ → Node → ℕ → ℕ
counts_as k node claimed = min k (max (weight node) claimed)

-- a child as the choices at its parent see it
abbrev pub claimed_child : ℕ → Node → Bound → Child
claimed_child k node bound = record { least = bound.least; lean = counts_as k node bound.lean; nearly = counts_as k node bound.nearly }

-- the trees of a forest as the choices at their parent see them, where the bounds of all nodes of the forest come in document order
abbrev pub claimed_children : ℕ → Forest → List Bound → List Child
claimed_children k Empty bounds = []
claimed_children k (Plant node below beside) [] = []
claimed_children k (Plant node below beside) (bound ∷ bounds) = claimed_child k node bound ∷ claimed_children k beside (drop (nodes below) bounds)

-- what is claimed of the nodes of a forest, in document order
abbrev pub claimed_in : ℕ → Forest → List Bound → List Claimed
claimed_in k Empty bounds = []
claimed_in k (Plant node below beside) [] = []
claimed_in k (Plant node below beside) (bound ∷ bounds) =
    record { own = weight node; children = claimed_children k below bounds; bound = as_child bound }
    ∷ claimed_in k below bounds ++ claimed_in k beside (drop (nodes below) bounds)

-- what is claimed of the nodes of a tree, in document order
abbrev pub claimed : ℕ → OrderedTree → List Bound → List Claimed
claimed k tree bounds = claimed_in k (Plant tree.node tree.below Empty) bounds

-- there is one bound for each node of the tree, and each is supported
pub record AreSupported (k : ℕ) (tree : OrderedTree) (bounds : List Bound) : Type 0 where
  pub one_each : length bounds ≡ 1 + nodes tree.below
  pub each : AllByRecursion (IsSupported k) (claimed k tree bounds)
