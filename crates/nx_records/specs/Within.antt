-- Bytes put within the catalog.
use Rattle.std.specs.Prelude.{◌≡◌, ◌≢◌, ℕ, ◌+◌, List, [], ◌++◌, length, take, drop}
use Rattle.nx_holdings.specs.Holdings.{Held}
use Rattle.nx_records.specs.Changes.{SetsCatalog}
use Rattle.nx_records.specs.declared.records.Records.{Records}

-- on which pages the catalog stands is known
abbrev pub KnowsCatalog : Records → Type 0
KnowsCatalog records = records.catalog_pages ≢ []

-- the bytes, with others in the place of as many of them from an offset on
abbrev pub patched : (at : ℕ) → (others bytes : List ℕ) → List ℕ
patched at others bytes = take at bytes ++ (others ++ drop (at + length others) bytes)

-- Bytes were put in the place of as many of the catalog's, from an offset on. It stands on the pages on which it stood.
pub record PatchesCatalog (at : ℕ) (bytes : List ℕ) (was now : Held) : Type 0 where
  pub sets : SetsCatalog (patched at bytes was.catalog.bytes) was now
  pub pages : now.catalog.pages ≡ was.catalog.pages
