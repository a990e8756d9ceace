-- Which calls of a host fail. Calls are numbered from 1.
use Rattle.std.specs.Prelude.{◌≡◌, ◌||◌, ◌==◌, ℕ, ◌+◌, ◌-◌, ◌^◌, Bool, nat_lt, min}
use Rattle.std.specs.List.{list_any}
use Rattle.nx_memory.specs.declared.calls.Calls.{Calls}

-- the number of the next call, up to 2^64 - 1
abbrev pub next_call_number : Calls → ℕ
next_call_number calls = min (calls.made + 1) (2 ^ 64 - 1)

-- whether the call of this number fails: it comes after the last that may go well, or is a listed one
abbrev pub fails : ℕ → Calls → Bool
fails number calls = nat_lt calls.last number || list_any (λ n. n == number) calls.failing.items

-- One call more was made, and the same calls fail.
pub record IsNext (old new : Calls) : Type 0 where
  pub made : new.made ≡ next_call_number old
  pub last : new.last ≡ old.last
  pub failing : new.failing ≡ old.failing
