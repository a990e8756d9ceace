-- Labels that get numbers, and hints which these are.
use Rattle.std.specs.Prelude.{◌≡◌, ◌⊎◌, ℕ, ◌<◌, ◌≤◌, false, List, length, get_or, Some, None}
use Rattle.std.specs.Str.{bytes_eq}
use Rattle.nx_names.specs.declared.serials.Serials.{Serials}
use Rattle.nx_names.specs.declared.hints.Hints.{Hints}
use Rattle.nx_names.specs.declared.hints.Hint.{Hint}
use Rattle.nx_names.specs.Serials.{LabelNumbers, label_number, numbered_list}
use Rattle.nx_names.specs.Opening.{AddsOpen}

-- There is a list for each number, and no two labels have one number.
pub record IsNumbering (serials : Serials) : Type 0 where
  pub below : (name : List ℕ) (number : ℕ) → label_number serials.numbers name ≡ Some number → number < length serials.lists.items
  pub apart : (name other : List ℕ) (number : ℕ) → label_number serials.numbers name ≡ Some number → label_number serials.numbers other ≡ Some number → name ≡ other

-- The label has this number, as before or as a new one, of which there is no list yet.
pub record NumbersLabel (old : Serials) (name : List ℕ) (new : Serials) (number : ℕ) : Type 0 where
  pub has : label_number new.numbers name ≡ Some number
  pub others : (asked : List ℕ) → bytes_eq asked name ≡ false → label_number new.numbers asked ≡ label_number old.numbers asked
  pub lists : new.lists ≡ old.lists
  pub origin : (label_number old.numbers name ≡ Some number) ⊎ ((label_number old.numbers name ≡ None) × (number ≡ length old.lists.items))

-- To the list of this number, which is there or would be the next one, those came of the numbers around the walk that weren't in it.
pub record AddsAt (old : Serials) (number : ℕ) (around : List ℕ) (new : Serials) : Type 0 where
  pub numbers : new.numbers ≡ old.numbers
  pub room : number ≤ length old.lists.items → number < length new.lists.items
  pub keeps : length old.lists.items ≤ length new.lists.items
  pub adds : number ≤ length old.lists.items → AddsOpen (numbered_list old.lists.items number) around (numbered_list new.lists.items number)
  pub others : (n : ℕ) → (n ≡ number → ⊥) → n < length old.lists.items → numbered_list new.lists.items n ≡ numbered_list old.lists.items n

-- each hint with a label has that label's number
abbrev pub AreRight : LabelNumbers → Hints → Type 0
AreRight numbers hints = (k : ℕ) (d : Hint) → k < length hints.hints.items → 1 ≤ length (get_or hints.hints.items k d).label.items → label_number numbers (get_or hints.hints.items k d).label.items ≡ Some (get_or hints.hints.items k d).number
