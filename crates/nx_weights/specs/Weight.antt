-- How much room nodes and subtrees take, and what comes first in document order.
use Rattle.std.specs.Prelude.{◌≡◌, ℕ, ◌+◌, ◌<◌, ◌≤◌, Bool, nat_lt, nat_le, if◌then◌else◌, List, [], ◌∷◌, ◌++◌, length, Option, Some}
use Rattle.std.specs.Int.{div_ceil}
use Rattle.std.specs.List.{find}
use Rattle.std.specs.Option.{option_map}
use Rattle.nx_tree.specs.declared.node.Node.{Node}
use Rattle.nx_tree.specs.Forest.{OrderedTree, Forest, Empty, Plant, nodes}
use Rattle.nx_tree.specs.Edit.{at}
use Rattle.nx_tree.specs.Document.{longest_node, most_nodes, deepest, depth}

-- the most bytes of a content that stands beside its node; a longer one stands elsewhere
abbrev pub longest_near : ℕ
longest_near = 1024

-- the bytes that a content of so many bytes counts for: its own, or the 8 that say where a longer one stands
unfoldable pub counted : ℕ → ℕ
counted content = if nat_le content longest_near then content else 8

-- the slots of 8 bytes that a node counts for whose name and content have so many bytes: one, and those that they fill together as they count
abbrev pub weight_of : (name content : ℕ) → ℕ
weight_of name content = 1 + div_ceil (name + counted content) 8

-- the slots of 8 bytes that a node counts for
abbrev pub weight : Node → ℕ
weight node = weight_of (length node.name) (length node.content)

-- the sum of the weights of the nodes of a forest
abbrev pub total : Forest → ℕ
total Empty = 0
total (Plant node below beside) = weight node + total below + total beside

-- the sum of the weights of each subtree of a forest, in document order
abbrev pub weights_in : Forest → List ℕ
weights_in Empty = []
weights_in (Plant node below beside) = (weight node + total below) ∷ weights_in below ++ weights_in beside

-- the sum of the weights of the nodes of a tree
abbrev pub tree_weight : OrderedTree → ℕ
tree_weight tree = weight tree.node + total tree.below

-- the sum of the weights of each subtree of a tree, itself the first, in document order
abbrev pub tree_weights : OrderedTree → List ℕ
tree_weights tree = tree_weight tree ∷ weights_in tree.below

-- the nodes of a forest in document order: a node, those below it, those beside it
abbrev pub in_order : Forest → List Node
in_order Empty = []
in_order (Plant node below beside) = node ∷ in_order below ++ in_order beside

-- no node of the forest weighs more than k
abbrev pub AreAtMost : ℕ → Forest → Type 0
AreAtMost k Empty = Unit {0}
AreAtMost k (Plant node below beside) = (weight node ≤ k) × AreAtMost k below × AreAtMost k beside

-- the nodes of the forest below the node at a path, from a position on, in document order and each with its path
abbrev pub listed_in : List ℕ → ℕ → Forest → List (List ℕ × Node)
listed_in path position Empty = []
listed_in path position (Plant node below beside) =
    (path ++ position ∷ [], node) ∷ listed_in (path ++ position ∷ []) 0 below ++ listed_in path (position + 1) beside

-- the nodes of a tree that stands at a path, in document order and each with its path
abbrev pub listed_from : List ℕ → OrderedTree → List (List ℕ × Node)
listed_from path tree = (path, tree.node) ∷ listed_in path 0 tree.below

-- the nodes of a tree in document order, each with its path
abbrev pub listed : OrderedTree → List (List ℕ × Node)
listed tree = listed_from [] tree

-- the node, which comes with its path, weighs more than k
abbrev pub is_heavy : ℕ → List ℕ × Node → Bool
is_heavy k placed = nat_lt k (weight placed.1)

-- the first node of a tree in document order that weighs more than k, with its path
abbrev pub first_heavy : ℕ → OrderedTree → Option (List ℕ × Node)
first_heavy k tree = find (is_heavy k) (listed tree)

-- the path of a node, and its weight
abbrev pub weighed : List ℕ × Node → List ℕ × ℕ
weighed placed = (placed.0, weight placed.1)

-- no node of the tree weighs more than k
abbrev pub IsAtMost : ℕ → OrderedTree → Type 0
IsAtMost k tree = (weight tree.node ≤ k) × AreAtMost k tree.below

-- at the path stands a node of that weight, which is more than k
pub record IsHeavyAt (k : ℕ) (tree : OrderedTree) (path : List ℕ) (slots : ℕ) : Type 0 where
  pub there : option_map (λ t. weight t.node) (at tree path) ≡ Some slots
  pub more : k < slots

-- the node's name and content have together at most the bytes that they may have in a document
abbrev pub IsShort : Node → Type 0
IsShort node = length node.name + length node.content ≤ longest_node

-- each node of the forest is short
abbrev pub AreShort : Forest → Type 0
AreShort Empty = Unit {0}
AreShort (Plant node below beside) = IsShort node × AreShort below × AreShort beside

-- the tree has no longer and no more nodes than a document, and is no deeper: a document is such a tree, and so is each tree in it
pub record IsWithinLimits (tree : OrderedTree) : Type 0 where
  pub short : IsShort tree.node
  pub all_short : AreShort tree.below
  pub few : 1 + nodes tree.below ≤ most_nodes
  pub shallow : depth tree.below ≤ deepest
