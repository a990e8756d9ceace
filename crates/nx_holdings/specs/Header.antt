-- The header of a store, which is its page 0, by its bytes.
use Rattle.std.specs.Prelude.{◌≡◌, ℕ, ◌^◌, ◌-◌, ◌<◌, ◌≤◌, List, [], ◌∷◌, ◌++◌, length}
use Rattle.std.proofs.Math.ListN.{replicate}
use Rattle.nx_numbers.specs.Sizes.{page_size, most_pages}
use Rattle.nx_numbers.specs.Numbers.{number_bytes}
use Rattle.nx_replay.specs.Log.{mark}
use Rattle.nx_holdings.specs.declared.header.Header.{Header}
use Rattle.nx_holdings.specs.declared.header.Settings.{Settings}

-- numbers behind each other, each as so many bytes
abbrev pub fields_bytes : List (ℕ × ℕ) → List ℕ
fields_bytes [] = []
fields_bytes (f ∷ fs) = number_bytes f.0 f.1 ++ fields_bytes fs

-- the fields behind the mark, in order, with the bytes that each takes
abbrev pub fields_of : Header → List (ℕ × ℕ)
fields_of h =
    (2, h.format) ∷ (2, h.settings.k) ∷ (2, h.settings.target) ∷ (2, h.settings.tolerance) ∷ (4, h.settings.limit) ∷ (4, h.pages) ∷ (4, h.free) ∷ (4, h.room)
    ∷ (8, h.number) ∷ (4, h.catalog) ∷ (8, h.catalog_length) ∷ []

-- the page with this header: the mark, the fields, and zero bytes
unfoldable pub header_bytes : Header → List ℕ
header_bytes h = mark ++ (fields_bytes (fields_of h) ++ replicate (page_size - 52) 0)

-- settings that a store may have
pub record AreSettings (s : Settings) : Type 0 where
  pub k : (1 ≤ s.k) × (s.k ≤ 256)
  pub target : s.target ≤ 100
  pub tolerance : s.tolerance ≤ 256
  pub limit : (64 ≤ s.limit) × (s.limit ≤ most_pages)

-- the newest format that a store may have
abbrev pub newest_format : ℕ
newest_format = 2

-- each field is in its range, and fits its bytes
pub record IsInRange (h : Header) : Type 0 where
  pub format : (1 ≤ h.format) × (h.format ≤ newest_format)
  pub settings : AreSettings h.settings
  pub pages : (2 ≤ h.pages) × (h.pages ≤ h.settings.limit)
  pub catalog_length : (8 ≤ h.catalog_length) × (h.catalog_length < 2 ^ 64)
  pub pointers : (h.free < 2 ^ 32) × (h.room < 2 ^ 32) × (h.catalog < 2 ^ 32)
  pub number : h.number < 2 ^ 64

-- The bytes are the page with this header.
pub record IsHeader (bytes : List ℕ) (h : Header) : Type 0 where
  pub are : bytes ≡ header_bytes h
  pub range : IsInRange h

-- the bytes are no header
abbrev pub IsNoHeader : List ℕ → Type 0
IsNoHeader bytes = (h : Header) → IsHeader bytes h → ⊥

-- a page to which the mark and these fields are written, up to an offset, with zero bytes behind them
pub record IsHeaderLaid (page : List ℕ) (at : ℕ) (fields : List (ℕ × ℕ)) : Type 0 where
  pub here : length (mark ++ fields_bytes fields) ≡ at
  pub low : at ≤ page_size
  pub are : page ≡ (mark ++ fields_bytes fields) ++ replicate (page_size - at) 0
