-- What the program does with its arguments.
use Rattle.std.specs.Prelude.{ℕ, Bool, false, ◌||◌, if◌then◌else◌, List, ◌∷◌, codes}
use Rattle.std.specs.Str.{bytes_eq}
use Rattle.nx_filters.specs.declared.status.Status.{Status}

-- how many pages that were read lately are kept for a command
abbrev pub most_kept_for : List ℕ → ℕ
most_kept_for command = if bytes_eq command (codes "check") then 64 else 256

-- the same for the words of a command line
abbrev pub most_kept : List (List ℕ) → ℕ
most_kept (store ∷ command ∷ words) = most_kept_for command
most_kept words = 256

-- whether a command may begin a store: it makes a log that is missing
abbrev pub makes_log_for : List ℕ → Bool
makes_log_for command = bytes_eq command (codes "init") || bytes_eq command (codes "apply")

-- the same for the words of a command line
abbrev pub makes_log : List (List ℕ) → Bool
makes_log (store ∷ command ∷ words) = makes_log_for command
makes_log words = false

-- A host for the words was made, the command of the words was carried out over it, and it ended so.
pub record RanOver {H : Type 0} (made : List (List ℕ) → H → Type 0) (ends : List (List ℕ) → H → Status → Type 0) (words : List (List ℕ)) (status : Status) : Type 0 where
  pub host : H
  pub is_made : made words host
  pub ended : ends words host status
