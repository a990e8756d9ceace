-- Numeric choices over the children of a node. They know three numbers of each child, and nothing of the tree: how many intervals it has (`least`), what its root's part weighs with so many of them (`lean`), and what with one more (`nearly`).
use Rattle.std.specs.Prelude.{◌≡◌, ℕ, ◌+◌, ◌-◌, ◌≤◌, List, [], ◌∷◌, ◌++◌, length, map, max}
use Rattle.nx_choices.specs.declared.child.Child.{Child}

-- A child as it stands in an interval: in its first form, or in its second with one interval more.
pub data Member : Type 0 where
  First : Child → Member
  Second : Child → Member

-- A part of a choice: a child that stays uncut, or an interval of one child and the members after it.
pub data Cell : Type 0 where
  Uncut : Child → Cell
  Interval : Member → List Member → Cell

abbrev pub child_of : Member → Child
child_of (First child) = child
child_of (Second child) = child

-- how many intervals the child's form has
abbrev pub number : Member → ℕ
number (First child) = child.least
number (Second child) = child.least + 1

-- what the root's part of the child's form weighs
abbrev pub slots : Member → ℕ
slots (First child) = child.lean
slots (Second child) = child.nearly

-- the children that a cell covers, in order
abbrev pub children_of_cell : Cell → List Child
children_of_cell (Uncut child) = child ∷ []
children_of_cell (Interval member members) = map child_of (member ∷ members)

-- the children that a choice covers, in order
abbrev pub covered : List Cell → List Child
covered [] = []
covered (cell ∷ cells) = children_of_cell cell ++ covered cells

-- how many intervals the cell is
abbrev pub intervals_of : Cell → ℕ
intervals_of (Uncut child) = 0
intervals_of (Interval member members) = 1

-- the intervals of a choice
abbrev pub choice_intervals : List Cell → ℕ
choice_intervals [] = 0
choice_intervals (cell ∷ cells) = intervals_of cell + choice_intervals cells

-- the numbers of all members
abbrev pub numbers_of : List Member → ℕ
numbers_of [] = 0
numbers_of (member ∷ members) = number member + numbers_of members

abbrev pub cell_numbers : Cell → ℕ
cell_numbers (Uncut child) = child.least
cell_numbers (Interval member members) = numbers_of (member ∷ members)

-- the numbers of all children of a choice, in their forms
abbrev pub numbers : List Cell → ℕ
numbers [] = 0
numbers (cell ∷ cells) = cell_numbers cell + numbers cells

-- what an interval of these members weighs
abbrev pub interval_weight : List Member → ℕ
interval_weight [] = 0
interval_weight (member ∷ members) = slots member + interval_weight members

-- what a cell leaves with the node
abbrev pub left_by : Cell → ℕ
left_by (Uncut child) = child.lean
left_by (Interval member members) = 0

-- what a choice leaves with the node: the weights of the uncut children
abbrev pub left : List Cell → ℕ
left [] = 0
left (cell ∷ cells) = left_by cell + left cells

-- an interval of a choice weighs at most k
abbrev pub IsLight : ℕ → Cell → Type 0
IsLight k (Uncut child) = Unit {0}
IsLight k (Interval member members) = interval_weight (member ∷ members) ≤ k

-- each interval of a choice does
abbrev pub AreLight : ℕ → List Cell → Type 0
AreLight k [] = Unit {0}
AreLight k (cell ∷ cells) = IsLight k cell × AreLight k cells

-- the count of a choice: one interval, those of the choice, and those within each child but for its root's; one at least
abbrev pub count : List Cell → ℕ
count cells = max 1 ((1 + choice_intervals cells + numbers cells) - length (covered cells))

-- a choice over these children of a node that weighs `own`, none of whose parts weighs more than k
pub record IsAdmitted (k own : ℕ) (children : List Child) (cells : List Cell) : Type 0 where
  pub covers : covered cells ≡ children
  pub root : own + left cells ≤ k
  pub light : AreLight k cells

-- each form of the child weighs at least 1 and at most k
pub record IsWeighed (k : ℕ) (child : Child) : Type 0 where
  pub lean_some : 1 ≤ child.lean
  pub lean_most : child.lean ≤ k
  pub nearly_some : 1 ≤ child.nearly
  pub nearly_most : child.nearly ≤ k

-- each child is
abbrev pub AreWeighed : ℕ → List Child → Type 0
AreWeighed k [] = Unit {0}
AreWeighed k (child ∷ children) = IsWeighed k child × AreWeighed k children

-- the numbers of all children in their first form
abbrev pub leasts : List Child → ℕ
leasts [] = 0
leasts (child ∷ children) = child.least + leasts children
