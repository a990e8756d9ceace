-- When what is claimed of a node is supported: by every choice over what is claimed of its children.
use Rattle.std.specs.Prelude.{◌≡◌, ℕ, ◌+◌, ◌<◌, ◌≤◌, List, Option, None, Some}
use Rattle.nx_choices.specs.declared.child.Child.{Child}
use Rattle.nx_choices.specs.declared.child.Field.{Field}
use Rattle.nx_choices.specs.declared.child.Field.TheVariants.{Least, Lean, Nearly}
use Rattle.nx_choices.specs.Choice.{Cell, IsAdmitted, count, left}

-- What is claimed of a node: beside its numbers, what it weighs and what is claimed of its children.
pub record Claimed : Type 0 where
  pub own : ℕ
  pub children : List Child
  pub bound : Child

-- the number of a node
abbrev pub claim : Field → Child → ℕ
claim Least bound = bound.least
claim Lean bound = bound.lean
claim Nearly bound = bound.nearly

-- which choices a number speaks of: `least` of all, `lean` of those with a count of at most `least`, `nearly` of those with at most one more
abbrev pub SpeaksOf : Field → Child → List Cell → Type 0
SpeaksOf Least bound cells = Unit {0}
SpeaksOf Lean bound cells = count cells ≤ bound.least
SpeaksOf Nearly bound cells = count cells ≤ bound.least + 1

-- what it speaks of: their count, or the weight of the node's part
abbrev pub value : Field → ℕ → List Cell → ℕ
value Least own cells = count cells
value Lean own cells = own + left cells
value Nearly own cells = own + left cells

-- the number is at most what every choice gives that it speaks of
abbrev pub IsFieldSupported : ℕ → Field → Claimed → Type 0
IsFieldSupported k field node =
    (cells : List Cell) → IsAdmitted k node.own node.children cells → SpeaksOf field node.bound cells → claim field node.bound ≤ value field node.own cells

-- each number of the node is supported
pub record IsSupported (k : ℕ) (node : Claimed) : Type 0 where
  pub least : IsFieldSupported k Least node
  pub lean : IsFieldSupported k Lean node
  pub nearly : IsFieldSupported k Nearly node

-- the number is more than the least that a choice gives, which is `found`
pub record IsExceeded (k : ℕ) (field : Field) (node : Claimed) (found : ℕ) : Type 0 where
  pub cells : List Cell
  pub admitted : IsAdmitted k node.own node.children cells
  pub speaks : SpeaksOf field node.bound cells
  pub given : value field node.own cells ≡ found
  pub least : (others : List Cell) → IsAdmitted k node.own node.children others → SpeaksOf field node.bound others → found ≤ value field node.own others
  pub more : found < claim field node.bound

-- the numbers before this one are supported
abbrev pub AreSupportedBefore : ℕ → Field → Claimed → Type 0
AreSupportedBefore k Least node = Unit {0}
AreSupportedBefore k Lean node = IsFieldSupported k Least node
AreSupportedBefore k Nearly node = IsFieldSupported k Least node × IsFieldSupported k Lean node

-- what the check of a node finds: nothing, or its first number that isn't supported and the least that a choice gives
abbrev pub FindsExceeded : ℕ → Claimed → Option (Field × ℕ) → Type 0
FindsExceeded k node None = IsSupported k node
FindsExceeded k node (Some (field, found)) = AreSupportedBefore k field node × IsExceeded k field node found
