-- Free pages, by their bytes.
use Rattle.std.specs.Prelude.{◌≡◌, ℕ, ◌^◌, ◌<◌, List}
use Rattle.nx_holdings.specs.Holdings.{free_bytes}

-- The bytes are the free page with this next free page, 0 for none.
pub record IsFreePage (bytes : List ℕ) (next : ℕ) : Type 0 where
  pub are : bytes ≡ free_bytes next
  pub low : next < 2 ^ 32

-- the bytes are none
abbrev pub IsNoFreePage : List ℕ → Type 0
IsNoFreePage bytes = (next : ℕ) → IsFreePage bytes next → ⊥
