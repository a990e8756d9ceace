-- The numbers of the intervals around a walk, added to a list.
use Rattle.std.specs.Prelude.{◌≡◌, ℕ, ◌<◌, ◌≤◌, ◌||◌, true, List, take, drop}
use Rattle.std.specs.List.Sorted.{IsNonDecreasing}
use Rattle.nx_names.specs.Serials.{is_in}

-- A number that is around the walk is in the list where a greater one is.
abbrev pub HasThoseBefore : List ℕ → List ℕ → Type 0
HasThoseBefore serials around = (serial later : ℕ) → is_in around serial ≡ true → is_in serials later ≡ true → serial ≤ later → is_in serials serial ≡ true

-- To the numbers of a list those of the intervals around the walk came that weren't among them.
abbrev pub AddsOpen : List ℕ → List ℕ → List ℕ → Type 0
AddsOpen old around new = IsNonDecreasing around → IsNonDecreasing old → HasThoseBefore old around → IsNonDecreasing new × ((serial : ℕ) → is_in new serial ≡ (is_in old serial || is_in around serial))

-- Of these numbers each of the first n is no greater than some in the list, and the others are greater than all of these.
pub record IsFirstNew (serials around : List ℕ) (n : ℕ) : Type 0 where
  pub older : IsNonDecreasing around → (serial : ℕ) → is_in (take n around) serial ≡ true → (later : ℕ) × (is_in serials later ≡ true) × (serial ≤ later)
  pub newer : IsNonDecreasing around → IsNonDecreasing serials → (serial earlier : ℕ) → is_in (drop n around) serial ≡ true → is_in serials earlier ≡ true → earlier < serial
