-- What the calls for input and output do.
use Rattle.std.specs.Prelude.{◌≡◌, ℕ, List, [], ◌++◌, take, Option, Some, IfSome}

-- Where the output is still told, it has grown by these bytes.
abbrev pub Appends : List ℕ → Option (List ℕ) → Option (List ℕ) → Type 0
Appends bytes old new = IfSome new (λ now. (was : List ℕ) × (old ≡ Some was) × (now ≡ was ++ bytes))

-- Where the output is still told, it has grown by a prefix of these bytes.
abbrev pub AppendsPrefix : List ℕ → Option (List ℕ) → Option (List ℕ) → Type 0
AppendsPrefix bytes old new = IfSome new (λ now. (was : List ℕ) × (n : ℕ) × (old ≡ Some was) × (now ≡ was ++ take n bytes))

-- Where the input is still told, these bytes were its first ones, and the others are left.
abbrev pub Takes : List ℕ → Option (List ℕ) → Option (List ℕ) → Type 0
Takes bytes old new = IfSome new (λ left. old ≡ Some (bytes ++ left))

-- Where the input is still told, none is left.
abbrev pub IsAtEnd : Option (List ℕ) → Type 0
IsAtEnd input = IfSome input (λ left. left ≡ [])
