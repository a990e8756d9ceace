-- A choice over the children of a node with a drawing of each child's tree is a drawing of the node's tree.
use Rattle.std.specs.Prelude.{ℕ, ◌+◌, ◌≤◌, List, [], ◌∷◌, ◌++◌, length, map}
use Rattle.nx_tree.specs.Forest.{OrderedTree, Forest, forest_of}
use Rattle.nx_weights.specs.Weight.{weight}
use Rattle.nx_parts.specs.declared.interval.Interval.{Interval as Siblings}
use Rattle.nx_parts.specs.Partitioning.{IsFeasible, root_weight}
use Rattle.nx_choices.specs.Choice.{Member, First, Cell, Uncut, Interval, number, slots}
use Rattle.nx_cuts.specs.Cut.{CutForest, Bare, Grown, Kept, CutTree, cuts, part_weight, AreParts, tree_of}

-- the form in which each child of a choice stands, in order; an uncut child is in its first
abbrev pub forms : List Cell → List Member
forms [] = []
forms (Uncut child ∷ cells) = First child ∷ forms cells
forms (Interval member members ∷ cells) = member ∷ members ++ forms cells

-- the first of these trees beside each other, one for each of the members
abbrev pub row : List Member → List CutTree → CutForest
row [] trees = Bare
row (member ∷ members) [] = Bare
row (member ∷ members) (tree ∷ trees) = Grown tree.node tree.below (row members trees)

-- the trees behind those
abbrev pub past : List Member → List CutTree → List CutTree
past [] trees = trees
past (member ∷ members) [] = []
past (member ∷ members) (tree ∷ trees) = past members trees

-- these trees beside each other, with the intervals of a choice drawn in
abbrev pub drawing : List Cell → List CutTree → CutForest
drawing [] trees = Bare
drawing (Uncut child ∷ cells) [] = Bare
drawing (Uncut child ∷ cells) (tree ∷ trees) = Grown tree.node tree.below (drawing cells trees)
drawing (Interval member members ∷ cells) trees = Kept tt (row (member ∷ members) trees) (drawing cells (past (member ∷ members) trees))

-- the forest of these trees, without their intervals
abbrev pub forest_under : List CutTree → Forest
forest_under trees = forest_of (map tree_of trees)

-- The tree is drawn with at most so many intervals, and its root's part weighs at most so much; no other part weighs more than k.
pub record Reaches (k most most_weight : ℕ) (tree : CutTree) : Type 0 where
  pub parts : AreParts k tree.below
  pub few : 1 + cuts tree.below ≤ most
  pub little : weight tree.node + part_weight tree.below ≤ most_weight

-- each of the trees reaches what is claimed of it in its form
abbrev pub AreReached : ℕ → List Member → List CutTree → Type 0
AreReached k [] [] = Unit {0}
AreReached k [] (tree ∷ trees) = ⊥
AreReached k (member ∷ members) [] = ⊥
AreReached k (member ∷ members) (tree ∷ trees) = Reaches k (number member) (slots member) tree × AreReached k members trees

-- some feasible partitioning of the tree has at most so many intervals, and its root's part weighs at most so much
pub record IsReachable (k most most_weight : ℕ) (tree : OrderedTree) : Type 0 where
  pub parts : List Siblings
  pub feasible : IsFeasible k tree parts
  pub few : length parts ≤ most
  pub little : root_weight tree parts ≤ most_weight
