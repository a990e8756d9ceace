-- Lists of weights, and which of them is too much.
use Rattle.std.specs.Prelude.{◌≡◌, ℕ, ◌<◌, List, length, slice_index}
use Rattle.nx_parts.specs.Refusal.{IsFirst}

-- one of the weights is above k
abbrev pub IsAbove : ℕ → List ℕ → ℕ → Type 0
IsAbove k weights index = (index < length weights) × (k < slice_index weights index)

-- the place of the first weight above k, and that weight
abbrev pub IsFirstAbove : ℕ → List ℕ → ℕ × ℕ → Type 0
IsFirstAbove k weights heavy = IsFirst (IsAbove k weights) heavy.0 × (heavy.1 ≡ slice_index weights heavy.0)
