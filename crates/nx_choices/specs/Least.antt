-- What the least choices over the children of a node give.
use Rattle.std.specs.Prelude.{◌≡◌, ℕ, ◌+◌, ◌≤◌, List}
use Rattle.nx_lists.specs.Least.{IsLeast}
use Rattle.nx_choices.specs.declared.child.Child.{Child}
use Rattle.nx_choices.specs.Choice.{IsAdmitted, count, left}

-- the least weight of the node's part by the choices with at most this count
abbrev pub IsLeastWithin : ℕ → ℕ → List Child → ℕ → ℕ → Type 0
IsLeastWithin k own children most weight = IsLeast (λ cells. IsAdmitted k own children cells × (count cells ≤ most)) (λ cells. own + left cells) weight

-- The numbers of a node say what the admitted choices over its children give: the least count, the least weight of the node's part with such a count, and the least with at most one more.
pub record IsLeastChoice (k own : ℕ) (children : List Child) (node : Child) : Type 0 where
  pub least : IsLeast (IsAdmitted k own children) count node.least
  pub lean : IsLeastWithin k own children node.least node.lean
  pub nearly : IsLeastWithin k own children (node.least + 1) node.nearly
