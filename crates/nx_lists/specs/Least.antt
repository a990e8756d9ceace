-- The least of many values.
use Rattle.std.specs.Prelude.{◌≡◌, ℕ, ◌≤◌}

-- The number is the least value of all those that P holds of: one of them has it, and none has less.
pub record IsLeast {A : Type 0} (P : A → Type 0) (value : A → ℕ) (number : ℕ) : Type 0 where
  pub one : A
  pub holds : P one
  pub reached : value one ≡ number
  pub least : (other : A) → P other → number ≤ value other
