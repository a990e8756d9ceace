-- A forest with its intervals drawn in: neighbouring trees may be the members of an interval, which has a mark.
use Rattle.std.specs.Prelude.{ℕ, ◌+◌, ◌-◌, ◌≤◌, List, [], ◌∷◌, ◌++◌}
use Rattle.nx_tree.specs.declared.node.Node.{Node}
use Rattle.nx_tree.specs.Forest.{Forest, Empty, Plant, OrderedTree}
use Rattle.nx_weights.specs.Weight.{weight}
use Rattle.nx_parts.specs.declared.interval.Interval.{Interval}
use Rattle.nx_parts.specs.declared.interval.Interval.TheVariants.{Root, Run}

-- trees beside each other, some of them members of intervals: `N` is what a node is, `P` what an interval is marked with
pub data Cut (N P : Type 0) : Type 0 where
  Bare : Cut N P
  Grown : (node : N) (below beside : Cut N P) → Cut N P
  Kept : (mark : P) (members beside : Cut N P) → Cut N P

-- one forest beside another
abbrev pub joined : Forest → Forest → Forest
joined Empty last = last
joined (Plant node below beside) last = Plant node below (joined beside last)

-- the forest, without its intervals
abbrev pub forest : {P : Type 0} → Cut Node P → Forest
forest Bare = Empty
forest (Grown node below beside) = Plant node (forest below) (forest beside)
forest (Kept mark members beside) = joined (forest members) (forest beside)

-- how many trees stand beside each other
abbrev pub width : {N P : Type 0} → Cut N P → ℕ
width Bare = 0
width (Grown node below beside) = 1 + width beside
width (Kept mark members beside) = width members + width beside

-- the intervals below the node at a path, from a position on, in document order of their first members
abbrev pub intervals : {N P : Type 0} → List ℕ → ℕ → Cut N P → List Interval
intervals path position Bare = []
intervals path position (Grown node below beside) = intervals (path ++ position ∷ []) 0 below ++ intervals path (position + 1) beside
intervals path position (Kept mark members beside) =
    Run path position (position + width members - 1) ∷ intervals path position members ++ intervals path (position + width members) beside

-- how many intervals they are
abbrev pub cuts : {N P : Type 0} → Cut N P → ℕ
cuts Bare = 0
cuts (Grown node below beside) = cuts below + cuts beside
cuts (Kept mark members beside) = 1 + cuts members + cuts beside

-- what weighs with the node above: the trees that are no members of intervals, down to the next ones that are
abbrev pub part_weight : {P : Type 0} → Cut Node P → ℕ
part_weight Bare = 0
part_weight (Grown node below beside) = weight node + part_weight below + part_weight beside
part_weight (Kept mark members beside) = part_weight beside

-- none of these trees is a member of an interval
abbrev pub AreFree : {N P : Type 0} → Cut N P → Type 0
AreFree Bare = Unit {0}
AreFree (Grown node below beside) = AreFree beside
AreFree (Kept mark members beside) = ⊥

-- each interval has a member, no member is one of another interval, and no part weighs more than k
abbrev pub AreParts : {P : Type 0} → ℕ → Cut Node P → Type 0
AreParts k Bare = Unit {0}
AreParts k (Grown node below beside) = AreParts k below × AreParts k beside
AreParts k (Kept mark members beside) = (1 ≤ width members) × AreFree members × (part_weight members ≤ k) × AreParts k members × AreParts k beside

-- trees of a document beside each other, whose intervals bear no marks
abbrev pub CutForest : Type 0
CutForest = Cut Node (Unit {0})

-- a tree with its intervals drawn in below its root, which is the one member of an interval of its own
pub record CutTree : Type 0 where
  pub node : Node
  pub below : CutForest

-- the tree, without its intervals
abbrev pub tree_of : CutTree → OrderedTree
tree_of t = record { node = t.node; below = forest t.below }

-- its intervals, the root's first and the others in document order of their first members
abbrev pub parts_of : CutTree → List Interval
parts_of t = Root ∷ intervals [] 0 t.below
