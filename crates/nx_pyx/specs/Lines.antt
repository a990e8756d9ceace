-- A stream of bytes and its lines.
use Rattle.std.specs.Prelude.{◌≡◌, ℕ, ◌+◌, ◌<◌, Bool, false, length, take, drop, ◌==◌, if◌then◌else◌, List, [], ◌∷◌, ◌++◌, map}
use Rattle.std.specs.List.{list_any}

-- what is cut at each LF: the pieces that an LF ends, and what stands behind the last LF
pub record Pieces : Type 0 where
  pub ended : List (List ℕ)
  pub rest : List ℕ

abbrev pub prepend_to : ℕ → List (List ℕ) → List ℕ → Pieces
prepend_to b [] rest = record { ended = []; rest = b ∷ rest }
prepend_to b (piece ∷ pieces) rest = record { ended = (b ∷ piece) ∷ pieces; rest = rest }

-- the pieces with one byte more in front
abbrev pub prepend : ℕ → Pieces → Pieces
prepend b p = prepend_to b p.ended p.rest

-- a stream cut at each LF
abbrev pub cut : List ℕ → Pieces
cut [] = record { ended = []; rest = [] }
cut (b ∷ bytes) = if b == 10 then record { ended = [] ∷ (cut bytes).ended; rest = (cut bytes).rest } else prepend b (cut bytes)

-- without one CR at the end, where there is one
abbrev pub without_cr : List ℕ → List ℕ
without_cr [] = []
without_cr (b ∷ []) = if b == 13 then [] else b ∷ []
without_cr (b ∷ c ∷ bytes) = b ∷ without_cr (c ∷ bytes)

-- the lines that an LF ends
abbrev pub ended_lines : List ℕ → List (List ℕ)
ended_lines stream = map without_cr (cut stream).ended

-- the line that the bytes behind the last LF are, where there are any
abbrev pub last_line : List ℕ → List (List ℕ)
last_line [] = []
last_line (b ∷ bytes) = without_cr (b ∷ bytes) ∷ []

-- the lines of a stream
abbrev pub lines : List ℕ → List (List ℕ)
lines stream = ended_lines stream ++ last_line (cut stream).rest

abbrev pub is_lf : ℕ → Bool
is_lf b = b == 10

-- an LF is among the bytes
abbrev pub has_lf : List ℕ → Bool
has_lf bytes = list_any is_lf bytes

-- the first LF of the bytes stands there
pub record EndsLine (bytes : List ℕ) (end : ℕ) : Type 0 where
  pub inside : end < length bytes
  pub none_before : has_lf (take end bytes) ≡ false
  pub parts : bytes ≡ take end bytes ++ (10 ∷ drop (end + 1) bytes)
