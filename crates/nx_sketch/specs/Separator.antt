-- The separator of a part of a document, which divides it at a weight, and its plan.
use Rattle.std.specs.Prelude.{◌≡◌, ℕ, ◌+◌, ◌*◌, ◌/◌, ◌≤◌, Bool, true, false, ◌&&◌, nat_le, nat_lt, if◌then◌else◌, List, [], ◌∷◌, ◌++◌, map, Contains, ◌↔◌, ◌⊎◌}
use Rattle.std.specs.Cmp.Lexicographic.{slice_cmp}
use Rattle.std.specs.List.{sum_by}
use Rattle.std.specs.Ordering.{is_lt, nat_cmp}
use Rattle.nx_matrix.specs.declared.rule.Entry.TheVariants.{Standalone, Free}
use Rattle.nx_parts.specs.declared.interval.Interval.{Interval}
use Rattle.nx_parts.specs.declared.interval.Interval.TheVariants.{Root, Run}
use Rattle.nx_parts.specs.Order.{AreInOrder}
use Rattle.nx_sketch.specs.Sketch.{Placed}
use Rattle.nx_sketch.specs.Plan.{HasNodeAt, HasEntry, is_prefix}

-- where the part is divided: its weight times the target, of a hundred, rounded down
abbrev pub point : List Placed → ℕ → ℕ
point placed target = sum_by (λ node. node.weight) placed * target / 100

-- the first path comes before the second in document order
abbrev pub is_before : List ℕ → List ℕ → Bool
is_before path other = is_lt (slice_cmp nat_cmp path other)

-- what the nodes weigh that come before the path in document order
abbrev pub weight_before : List Placed → List ℕ → ℕ
weight_before placed path = sum_by (λ node. if is_before node.path path then node.weight else 0) placed

-- what the subtree at the path weighs
abbrev pub weight_within : List Placed → List ℕ → ℕ
weight_within placed path = sum_by (λ node. if is_prefix path node.path then node.weight else 0) placed

-- the node at the path is of the separator: the point lies within its subtree, which weighs more than the tolerance
abbrev pub is_marked : List Placed → ℕ → ℕ → List ℕ → Bool
is_marked placed t tolerance path =
    nat_le (weight_before placed path) t && nat_lt t (weight_before placed path + weight_within placed path) && nat_lt tolerance (weight_within placed path)

-- for each node in document order, whether it is of the separator
abbrev pub marks : List Placed → ℕ → ℕ → List Bool
marks placed t tolerance = map (λ node. is_marked placed t tolerance node.path) placed

-- the subtree at the path ends at the point or before it
abbrev pub is_left : List Placed → ℕ → List ℕ → Bool
is_left placed t path = nat_le (weight_before placed path + weight_within placed path) t

-- a free node that isn't of the separator, and on which side of the point its subtree ends
pub record IsLoose (placed : List Placed) (t tolerance : ℕ) (left : Bool) (path : List ℕ) : Type 0 where
  pub free : HasEntry placed path Free
  pub unmarked : is_marked placed t tolerance path ≡ false
  pub side : is_left placed t path ≡ left

-- a child that the separator's plan makes an interval alone: a standalone one, or the separator's root
abbrev pub IsSingle : List Placed → ℕ → ℕ → List ℕ → ℕ → Type 0
IsSingle placed t tolerance parent position =
    HasEntry placed (parent ++ position ∷ []) Standalone
    ⊎ ((parent ≡ []) × HasNodeAt placed (position ∷ []) × (is_marked placed t tolerance (position ∷ []) ≡ true))

-- children of the helper or of a node of the separator: all loose neighbours on one side of the point, as many as there are
pub record IsSideRow (placed : List Placed) (t tolerance : ℕ) (parent : List ℕ) (first last : ℕ) : Type 0 where
  pub opened : (parent ≡ []) ⊎ (is_marked placed t tolerance parent ≡ true)
  pub some : first ≤ last
  pub left : Bool
  pub loose : (position : ℕ) → first ≤ position → position ≤ last → IsLoose placed t tolerance left (parent ++ position ∷ [])
  pub begins : (position : ℕ) → position + 1 ≡ first → ¬ IsLoose placed t tolerance left (parent ++ position ∷ [])
  pub ends : ¬ IsLoose placed t tolerance left (parent ++ (last + 1) ∷ [])

-- the interval is one of the separator's plan
abbrev pub IsSeparatorRun : List Placed → ℕ → ℕ → Interval → Type 0
IsSeparatorRun placed t tolerance Root = ⊥
IsSeparatorRun placed t tolerance (Run parent first last) =
    ((first ≡ last) × IsSingle placed t tolerance parent first) ⊎ IsSideRow placed t tolerance parent first last

-- these are the intervals of the separator's plan, in document order
pub record IsSeparatorPlan (placed : List Placed) (t tolerance : ℕ) (parts : List Interval) : Type 0 where
  pub order : AreInOrder parts
  pub runs : (interval : Interval) → Contains parts interval ↔ IsSeparatorRun placed t tolerance interval
