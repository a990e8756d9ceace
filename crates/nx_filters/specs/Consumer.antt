-- What is known of an input that a consumer reads block by block.
use Rattle.std.specs.Prelude.{◌≡◌, ℕ, ◌<◌, ◌≤◌, List, [], length, Option, Result, Ok, Err}
use Rattle.nx_host.specs.Disk.{Beside, Rose}
use Rattle.nx_host.specs.Host.{Takes}
use Rattle.nx_host.specs.Input.{most_input}
use Rattle.nx_filters.specs.declared.take_error.TakeError.{TakeError}
use Rattle.nx_filters.specs.declared.take_error.TakeError.TheVariants.{Refused, ReadFault, TooMuch, NoMemory}
use Rattle.nx_filters.specs.declared.refusal.Refusal.{Refusal}

-- why a consumer stops that has taken these bytes, where `shows` says what bytes show
abbrev pub StopsAt : (List ℕ → Result (List ℕ) Refusal → Type 0) → TakeError → List ℕ → Type 0
StopsAt shows (Refused refusal) taken = shows taken (Err refusal)
StopsAt shows NoMemory taken = Unit {0}
StopsAt shows _ taken = ⊥

-- The bytes were taken, no more than a run takes, and show this.
pub record HasShown (shows : List ℕ → Result (List ℕ) Refusal → Type 0) (shown : Result (List ℕ) Refusal) (taken : List ℕ) (first now : Option (List ℕ)) : Type 0 where
  pub takes : Takes taken first now
  pub few : length taken ≤ most_input
  pub shows_so : shows taken shown

-- how the reading of an input stops, of which the first bytes may have been taken before
abbrev pub StopsFeeding : (List ℕ → Result (List ℕ) Refusal → Type 0) → TakeError → Option (List ℕ) → Beside → Beside → Type 0
StopsFeeding shows (Refused refusal) first old new = (taken : List ℕ) × HasShown shows (Err refusal) taken first new.input
StopsFeeding shows ReadFault first old new =
    Rose old.in_faults new.in_faults × (taken : List ℕ) × (length taken < most_input) × HasShown shows (Ok []) taken first new.input
StopsFeeding shows TooMuch first old new = (taken : List ℕ) × (length taken ≡ most_input) × HasShown shows (Ok []) taken first new.input
StopsFeeding shows NoMemory first old new = Unit {0}
