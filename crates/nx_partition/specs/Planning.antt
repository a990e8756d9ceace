-- What a plan is, and what a walk that writes one has written.
use Rattle.std.specs.Prelude.{◌≡◌, ℕ, ◌+◌, ◌-◌, ◌≤◌, Bool, if◌then◌else◌, List, [], ◌∷◌, ◌++◌}
use Rattle.nx_tree.specs.Forest.{OrderedTree}
use Rattle.nx_parts.specs.declared.bounds.Bound.{Bound}
use Rattle.nx_parts.specs.declared.interval.Interval.{Interval}
use Rattle.nx_parts.specs.declared.interval.Interval.TheVariants.{Run}
use Rattle.nx_parts.specs.declared.plan.Plan.{Plan}
use Rattle.nx_parts.specs.Minima.{AreMinima, IsLeanOptimal}
use Rattle.nx_parts.specs.Order.{AreInOrder}
use Rattle.nx_parts.specs.Partitioning.{part_weights}
use Rattle.nx_choices.specs.declared.child.Stand.{Stand}
use Rattle.nx_choices.specs.declared.child.Stand.TheVariants.{Uncut, Opens, Joins}
use Rattle.nx_cuts.specs.Cut.{CutTree, intervals, tree_of}
use Rattle.nx_minima.specs.Drawing.{Reaches}

-- A lean optimal partitioning in document order.
pub record IsLeanInOrder (k : ℕ) (tree : OrderedTree) (parts : List Interval) : Type 0 where
  pub lean : IsLeanOptimal k tree parts
  pub in_order : AreInOrder parts

-- Such a partitioning, with its parts' weights and the minima of all nodes.
pub record IsPlan (k : ℕ) (tree : OrderedTree) (plan : Plan) : Type 0 where
  pub partitioning : IsLeanInOrder k tree plan.parts
  pub weights : plan.weights ≡ part_weights tree plan.parts
  pub bounds : AreMinima k tree plan.bounds

-- the first of these bounds
abbrev pub first_bound : List Bound → Bound
first_bound [] = record { least = 0; lean = 0; nearly = 0 }
first_bound (bound ∷ bounds) = bound

-- and those behind it
abbrev pub behind_first : List Bound → List Bound
behind_first [] = []
behind_first (bound ∷ bounds) = bounds

-- how many intervals a form of the minima has
abbrev pub number_in : Bool → Bound → ℕ
number_in second bound = if second then bound.least + 1 else bound.least

-- what its root's part weighs
abbrev pub weight_in : Bool → Bound → ℕ
weight_in second bound = if second then bound.nearly else bound.lean

-- the interval that begins with a child, if one does
abbrev pub interval_begun : List ℕ → ℕ → Stand → List Interval
interval_begun path position Uncut = []
interval_begun path position (Opens number second) = Run path position (position + number - 1) ∷ []
interval_begun path position (Joins second) = []

-- an interval that begins at a position has a member, and ends before there is no child any more
abbrev pub IsWithinChildren : ℕ → Stand → Type 0
IsWithinChildren behind Uncut = Unit {0}
IsWithinChildren behind (Opens number second) = (1 ≤ number) × (number ≤ 1 + behind)
IsWithinChildren behind (Joins second) = Unit {0}

-- A list of intervals has grown by those of a drawing of the tree at the path, in document order. The drawing reaches the form of the tree's minima.
pub record AddsDrawing (k : ℕ) (tree : OrderedTree) (second : Bool) (bound : Bound) (path : List ℕ) (old new : List Interval) : Type 0 where
  pub drawn : CutTree
  pub tree_is : tree_of drawn ≡ tree
  pub reaches : Reaches k (number_in second bound) (weight_in second bound) drawn
  pub added : new ≡ old ++ intervals path 0 drawn.below
