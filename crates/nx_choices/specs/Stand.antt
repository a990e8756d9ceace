-- A choice as a walk over the children from left to right follows it.
use Rattle.std.specs.Prelude.{◌≡◌, ℕ, ◌+◌, ◌≤◌, Bool, true, false, List, [], ◌∷◌, ◌++◌, length}
use Rattle.nx_choices.specs.declared.child.Child.{Child}
use Rattle.nx_choices.specs.declared.child.Stand.{Stand}
use Rattle.nx_choices.specs.declared.child.Stand.TheVariants.{Uncut as Alone, Opens, Joins}
use Rattle.nx_choices.specs.Choice.{Member, First, Second, Cell, Uncut, Interval, IsAdmitted, count, left}

abbrev pub is_second : Member → Bool
is_second (First child) = false
is_second (Second child) = true

-- how the members behind the first one stand
abbrev pub joins : List Member → List Stand
joins [] = []
joins (member ∷ members) = Joins (is_second member) ∷ joins members

-- how each child of a choice stands
abbrev pub stands : List Cell → List Stand
stands [] = []
stands (Uncut child ∷ cells) = Alone ∷ stands cells
stands (Interval member members ∷ cells) = Opens (1 + length members) (is_second member) ∷ joins members ++ stands cells

abbrev pub takes_second : Stand → Bool
takes_second Alone = false
takes_second (Opens number second) = second
takes_second (Joins second) = second

-- Some admitted choice over the children counts at most so many intervals, and the node's part weighs at most so much.
pub record HasChoice (k own most most_weight : ℕ) (children : List Child) : Type 0 where
  pub cells : List Cell
  pub admitted : IsAdmitted k own children cells
  pub few : count cells ≤ most
  pub little : own + left cells ≤ most_weight

-- The stands are those of such a choice.
pub record IsChoice (k own most most_weight : ℕ) (children : List Child) (list : List Stand) : Type 0 where
  pub cells : List Cell
  pub admitted : IsAdmitted k own children cells
  pub few : count cells ≤ most
  pub little : own + left cells ≤ most_weight
  pub are : list ≡ stands cells

-- the list has grown by the stands of such a choice
pub record AddsChoice (k own most most_weight : ℕ) (children : List Child) (old new : List Stand) : Type 0 where
  pub list : List Stand
  pub added : new ≡ old ++ list
  pub choice : IsChoice k own most most_weight children list
