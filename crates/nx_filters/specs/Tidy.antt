-- What `tidy` makes of its input: a document.
use Rattle.std.specs.Prelude.{◌≡◌, ℕ, List, [], None, Some, Result, Ok, Err}
use Rattle.nx_tree.specs.Forest.{OrderedTree}
use Rattle.nx_pyx.specs.Fault.{shown_fault, fault_of}
use Rattle.nx_pyx.specs.Reading.{Reads}
use Rattle.nx_pyx.specs.Text.{text}
use Rattle.nx_filters.specs.declared.refusal.Refusal.{Refusal}
use Rattle.nx_filters.specs.declared.refusal.Refusal.TheVariants.{Pyx, TooHeavy, Bounds}
use Rattle.nx_filters.specs.declared.take_error.TakeError.{TakeError}
use Rattle.nx_filters.specs.declared.take_error.TakeError.TheVariants.{Refused, NoMemory}
use Rattle.nx_filters.specs.Outcome.{Meaning}

-- the input has this fault
abbrev pub RefusesDocument : List ℕ → Refusal → Type 0
RefusesDocument input (Pyx error) = fault_of input ≡ Some error
RefusesDocument input (TooHeavy path slots) = ⊥
RefusesDocument input (Bounds error) = ⊥

-- the bytes so far show this fault, or none, and nothing is given
abbrev pub ShowsDocument : List ℕ → Result (List ℕ) Refusal → Type 0
ShowsDocument taken (Ok shown) = (shown ≡ []) × (shown_fault taken ≡ None)
ShowsDocument taken (Err (Pyx error)) = shown_fault taken ≡ Some error
ShowsDocument taken (Err (TooHeavy path slots)) = ⊥
ShowsDocument taken (Err (Bounds error)) = ⊥

-- the document that the input says, in its canonical text
abbrev pub tidy : Meaning
tidy = record { Answer = OrderedTree; text_of = text; says = Reads; refuses = RefusesDocument; shows = ShowsDocument }

-- what a reader of these bytes gives at their end: the document that they say, or their fault
abbrev pub Finishes : List ℕ → Result OrderedTree TakeError → Type 0
Finishes taken (Ok tree) = Reads taken tree
Finishes taken (Err (Refused (Pyx error))) = fault_of taken ≡ Some error
Finishes taken (Err NoMemory) = Unit {0}
Finishes taken (Err _) = ⊥
