-- The least that the choices over a list of children leave with their node, by what they cost.
use Rattle.std.specs.Prelude.{◌≡◌, ◌↔◌, ℕ, ◌+◌, ◌-◌, ◌<◌, ◌≤◌, min, max, List, [], ◌∷◌, map, length, take, drop, get_or, slice_index, if◌then◌else◌, nat_lt, Option, None, Some}
use Rattle.nx_choices.specs.declared.profiles.Profiles.{Profiles}
use Rattle.nx_choices.specs.declared.profiles.Row.{Row}
use Rattle.nx_choices.specs.declared.reach.Form.{Form}
use Rattle.nx_choices.specs.declared.reach.Form.TheVariants.{Plain, Light}
use Rattle.nx_choices.specs.declared.child.Child.{Child}
use Rattle.nx_choices.specs.Choice.{Member, First, Second, Cell, Uncut, Interval, child_of, covered, interval_weight, left, leasts, count, AreLight, IsAdmitted}

-- 1 for a member in its second form
abbrev pub second : Member → ℕ
second (First child) = 0
second (Second child) = 1

-- how many members are in their second form
abbrev pub seconds : List Member → ℕ
seconds [] = 0
seconds (member ∷ members) = second member + seconds members

-- what a cell costs: the interval that it is, and those that its members have more
abbrev pub cell_cost : Cell → ℕ
cell_cost (Uncut child) = 0
cell_cost (Interval member members) = 1 + seconds (member ∷ members)

-- what a choice costs
abbrev pub cost : List Cell → ℕ
cost [] = 0
cost (cell ∷ cells) = cell_cost cell + cost cells

-- some choice over these children costs and leaves at most so much
pub record IsAchievable (k : ℕ) (children : List Child) (most most_left : ℕ) : Type 0 where
  pub cells : List Cell
  pub covers : covered cells ≡ children
  pub light : AreLight k cells
  pub cheap : cost cells ≤ most
  pub little : left cells ≤ most_left

-- these children may be one interval with at most so many members in their second form
pub record IsInterval (k : ℕ) (children : List Child) (most : ℕ) : Type 0 where
  pub members : List Member
  pub covers : map child_of members ≡ children
  pub few : seconds members ≤ most
  pub light : interval_weight members ≤ k

-- the weight that a list of weights, one for each cost from `base` on, has for this cost: beyond its end 0, and before it `none`
abbrev pub left_at : ℕ → ℕ → List ℕ → ℕ → ℕ
left_at none base lefts cost = if nat_lt cost base then none else slice_index lefts (cost - base)

-- it says that with such a cost at most so much may be left
pub record IsListed (base : ℕ) (lefts : List ℕ) (most most_left : ℕ) : Type 0 where
  pub enough : base ≤ most
  pub little : slice_index lefts (most - base) ≤ most_left

-- The list says what the choices over these children may leave, where up to `room` may be left.
pub record IsProfile (k room : ℕ) (children : List Child) (base : ℕ) (lefts : List ℕ) : Type 0 where
  pub tells : (most most_left : ℕ) → most_left ≤ room → IsAchievable k children most most_left ↔ IsListed base lefts most most_left
  pub short : base + length lefts ≤ length children
  pub small : (index : ℕ) → slice_index lefts index ≤ room + 1

-- the numbers of a row
abbrev pub lefts_of : List ℕ → Row → List ℕ
lefts_of lefts row = take row.len (drop row.start lefts)

-- the row is the profile of these children, and its numbers are among the lefts
pub record IsRowOf (k room : ℕ) (children : List Child) (lefts : List ℕ) (row : Row) : Type 0 where
  pub inside : row.start + row.len ≤ length lefts
  pub profile : IsProfile k room children row.base (lefts_of lefts row)

-- the last `number` of the children
abbrev pub last : ℕ → List Child → List Child
last number children = drop (length children - number) children

-- the first of the rows are the profiles of no children, of the last one, of the last two, and so on up to all of these
pub record AreProfiles (k room : ℕ) (children : List Child) (profiles : Profiles) : Type 0 where
  pub all : length children < length profiles.rows.items
  pub each : (number : ℕ) (row : Row) → number ≤ length children → IsRowOf k room (last number children) profiles.lefts.items (get_or profiles.rows.items number row)

-- what a child weighs in an interval: in its first form, or in the lighter one
abbrev pub weighs : Form → Child → ℕ
weighs Plain child = child.lean
weighs Light child = min child.lean child.nearly

-- what children weigh together
abbrev pub weigh : Form → List Child → ℕ
weigh form [] = 0
weigh form (child ∷ children) = weighs form child + weigh form children

-- the first `len` of the children weigh `sum`, which is at most k, and more of them weigh more than k
pub record IsReach (k : ℕ) (form : Form) (children : List Child) (len sum : ℕ) : Type 0 where
  pub within : len ≤ length children
  pub weighed : sum ≡ weigh form (take len children)
  pub light : sum ≤ k
  pub longest : (longer : ℕ) → longer ≤ length children → weigh form (take longer children) ≤ k → longer ≤ len

-- What a list of weights begins as, for each cost from `after_base` on: the first child is uncut, or the first children are an interval that costs 1.
pub record IsStarted (room lean after_base : ℕ) (after : List ℕ) (beyond_base : ℕ) (beyond lefts : List ℕ) : Type 0 where
  pub len : length lefts ≡ beyond_base + length beyond + 1 - after_base
  pub each : (index : ℕ) → index < length lefts → slice_index lefts index ≡ min (slice_index after index + lean) (left_at (room + 1) (beyond_base + 1) beyond (after_base + index))

-- The list of weights from `base` on is lowered to those of another.
pub record IsLowered (none base : ℕ) (old : List ℕ) (beyond_base : ℕ) (beyond new : List ℕ) : Type 0 where
  pub len : length new ≡ length old
  pub each : (index : ℕ) → index < length old → slice_index new index ≡ min (slice_index old index) (left_at none beyond_base beyond (base + index))

-- the index of the first weight that is at most k, if there is one
abbrev pub IsFirstLight : ℕ → List ℕ → Option ℕ → Type 0
IsFirstLight k weights None = (index : ℕ) → index < length weights → k < slice_index weights index
IsFirstLight k weights (Some index) =
    (index < length weights) × (slice_index weights index ≤ k) × ((lesser : ℕ) → lesser < index → k < slice_index weights lesser)

-- A list of weights that says what choices leave which begin with an uncut child, or with an interval of fewer than `until` children.
pub record IsDraft (k room : ℕ) (child : Child) (children : List Child) (until base : ℕ) (lefts : List ℕ) : Type 0 where
  pub sound : (most w : ℕ) → w ≤ room → IsListed base lefts most w → IsAchievable k (child ∷ children) most w
  pub uncut : (most w : ℕ) → w ≤ room → child.lean ≤ w → IsAchievable k children most (w - child.lean) → IsListed base lefts most w
  pub taken : (number extra most w : ℕ) → 1 ≤ number → number < until → w ≤ room → 1 + extra ≤ most → IsInterval k (take number (child ∷ children)) extra → IsAchievable k (drop number (child ∷ children)) (most - (1 + extra)) w → IsListed base lefts most w
  pub from : (most w : ℕ) → w ≤ room → IsAchievable k children most w → base ≤ most
  pub short : base + length lefts ≤ length (child ∷ children)
  pub small : (index : ℕ) → slice_index lefts index ≤ room + 1

-- the same of a list of children that isn't empty
abbrev pub IsDraftOf : ℕ → ℕ → List Child → ℕ → ℕ → List ℕ → Type 0
IsDraftOf k room [] until base lefts = ⊥
IsDraftOf k room (child ∷ children) until base lefts = IsDraft k room child children until base lefts

-- the count of a choice with this cost over so many children with these numbers
abbrev pub count_by_cost : ℕ → ℕ → ℕ → ℕ
count_by_cost sum number most = max 1 ((1 + most + sum) - number)

-- what choices with a count of at most `most` may cost, if there may be any
abbrev pub IsBudget : ℕ → ℕ → ℕ → Option ℕ → Type 0
IsBudget sum number most None = (cost : ℕ) → most < count_by_cost sum number cost
IsBudget sum number most (Some budget) = (cost : ℕ) → count_by_cost sum number cost ≤ most ↔ cost ≤ budget

-- the least that is left by choices of at most this cost, where it is at most `room`
abbrev pub IsLeastLeft : ℕ → ℕ → List Child → ℕ → Option ℕ → Type 0
IsLeastLeft k room children most None = (some_left : ℕ) → some_left ≤ room → ¬ IsAchievable k children most some_left
IsLeastLeft k room children most (Some least) =
    (least ≤ room) × IsAchievable k children most least × ((some_left : ℕ) → some_left ≤ room → IsAchievable k children most some_left → least ≤ some_left)

-- the least cost of a choice that leaves at most `room`
pub record IsCheapest (k room : ℕ) (children : List Child) (cheapest : ℕ) : Type 0 where
  pub enough : IsAchievable k children cheapest room
  pub least : (most : ℕ) → IsAchievable k children most room → cheapest ≤ most

-- how many children there are, and their numbers in sum
pub record AreCounts (children : List Child) (number sum : ℕ) : Type 0 where
  pub many : number ≡ length children
  pub sums : sum ≡ leasts children

-- `found` is the least that the node's part weighs by a choice with a count of at most `most`
pub record IsLeastWeight (k own : ℕ) (children : List Child) (most found : ℕ) : Type 0 where
  pub cells : List Cell
  pub admitted : IsAdmitted k own children cells
  pub few : count cells ≤ most
  pub given : own + left cells ≡ found
  pub least : (others : List Cell) → IsAdmitted k own children others → count others ≤ most → found ≤ own + left others

-- the least weight by such choices that is less than is claimed, or none
abbrev pub IsExcess : ℕ → ℕ → List Child → ℕ → ℕ → Option ℕ → Type 0
IsExcess k own children most claimed None = (cells : List Cell) → IsAdmitted k own children cells → count cells ≤ most → claimed ≤ own + left cells
IsExcess k own children most claimed (Some found) = IsLeastWeight k own children most found × (found < claimed)
