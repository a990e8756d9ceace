-- What was written to a file.
use Rattle.std.specs.Prelude.{◌≡◌, ℕ, List, length}

-- a write of these bytes at this offset
pub record LastWrite : Type 0 where
  pub at : ℕ
  pub bytes : List ℕ

-- it wrote one byte, at this offset
pub record IsByteAt (at : ℕ) (last : LastWrite) : Type 0 where
  pub here : last.at ≡ at
  pub one : length last.bytes ≡ 1
