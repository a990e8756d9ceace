-- A piece in the bytes of its record and of the list that the record names for its proxies, where it names one.
use Rattle.std.specs.Prelude.{◌≡◌, ℕ, List, length, ◌⊎◌}
use Rattle.nx_piece.specs.declared.piece.Piece.{Piece}
use Rattle.nx_piece.specs.declared.piece.Stored.{Stored}
use Rattle.nx_piece.specs.declared.piece.Stored.TheVariants.{Inline, Chained}
use Rattle.nx_piece.specs.Encoding.{encoding, proxies_bytes}
use Rattle.nx_piece.specs.Valid.{IsValid, HaveRoots, HaveNumbers, HasNumbers}

-- the record has the bytes of this valid piece
pub record IsRecord (record_bytes : List ℕ) (stored : Stored) : Type 0 where
  pub same : record_bytes ≡ encoding stored
  pub valid : IsValid stored
  pub numbers : HasNumbers stored

-- the record has the piece's nodes, and the list its proxies
pub record IsWrittenApart (piece : Piece) (record_bytes list : List ℕ) : Type 0 where
  pub chain : ℕ
  pub nodes : IsRecord record_bytes (Chained piece.body (length piece.proxies) chain)
  pub same : list ≡ proxies_bytes piece.proxies
  pub ranged : HaveRoots piece.proxies
  pub numbers : HaveNumbers piece.proxies

-- the record has the piece as a whole, or the list has its proxies
abbrev pub IsWrittenAs : Piece → (record_bytes list : List ℕ) → Type 0
IsWrittenAs piece record_bytes list = IsRecord record_bytes (Inline piece) ⊎ IsWrittenApart piece record_bytes list

-- its proxies stand in its record
abbrev pub IsInline : Stored → Type 0
IsInline (Inline piece) = Unit {0}
IsInline (Chained body count chain) = ⊥
