-- The lines before the first line that is a dot, and the bytes behind it.
use Rattle.std.specs.Prelude.{ℕ, if◌then◌else◌, List, [], ◌∷◌, ◌++◌, Option}
use Rattle.nx_pyx.specs.declared.error.PyxError.{PyxError}
use Rattle.nx_pyx.specs.Lines.{cut, without_cr}
use Rattle.nx_pyx.specs.Fault.{shown_fault}
use Rattle.nx_script.specs.Commands.{is_dot}

-- pieces with their LFs, and what stands behind the last LF
abbrev pub joined_lines : List (List ℕ) → List ℕ → List ℕ
joined_lines [] rest = rest
joined_lines (piece ∷ pieces) rest = piece ++ 10 ∷ joined_lines pieces rest

-- what stands before the first piece that is a dot as a line
abbrev pub before_in : List (List ℕ) → List ℕ → List ℕ
before_in [] rest = if is_dot (without_cr rest) then [] else rest
before_in (piece ∷ pieces) rest = if is_dot (without_cr piece) then [] else (piece ++ 10 ∷ before_in pieces rest)

-- what stands behind it
abbrev pub after_in : List (List ℕ) → List ℕ → List ℕ
after_in [] rest = []
after_in (piece ∷ pieces) rest = if is_dot (without_cr piece) then joined_lines pieces rest else after_in pieces rest

-- the bytes of the lines before the first line that is a dot, or all where there is none
abbrev pub before_dot : List ℕ → List ℕ
before_dot input = before_in (cut input).ended (cut input).rest

-- the bytes behind the first line that is a dot, none where there is none
abbrev pub after_dot : List ℕ → List ℕ
after_dot input = after_in (cut input).ended (cut input).rest

-- The fault that the lines before the dot show, of the bytes that were taken so far. A last line that an LF or more bytes may still make the dot isn't counted.
abbrev pub shown_before_dot : List ℕ → Option PyxError
shown_before_dot taken = shown_fault (before_dot taken)
