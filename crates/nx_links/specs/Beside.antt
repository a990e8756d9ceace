-- What pages hold beside one chain, which a call writes or takes away page by page.
use Rattle.std.specs.Prelude.{◌≡◌, ℕ, ◌+◌, ◌-◌, List, [], ◌∷◌, length, Option, Some}
use Rattle.nx_replay.specs.Log.{Pages}
use Rattle.nx_holdings.specs.declared.header.Header.{Header}
use Rattle.nx_holdings.specs.Header.{header_bytes}
use Rattle.nx_holdings.specs.Holdings.{Link, Chain, IsShared, list_at, pages_at, record_in}

-- a chain of these links in front of others, and the others alone where there is no link
abbrev pub chains_with : List Link → List Chain → List Chain
chains_with [] others = others
chains_with (l ∷ ls) others = record { first = l; rest = ls } ∷ others

-- The records, the byte lists of the other chains by their first pages, the catalog's among them, the pages on which these stand, and how many pages are free.
pub record HeldBeside : Type 0 where
  pub records : ℕ → ℕ → Option (List ℕ)
  pub lists : ℕ → Option (List ℕ)
  pub places : ℕ → List ℕ
  pub free : ℕ

-- Page 0 is a header, and behind it the pages are shared out by this header: beside a chain of these links they hold this.
pub record HoldsBeside (pages : Pages) (head : Header) (links : List Link) (held : HeldBeside) : Type 0 where
  pub free : List ℕ
  pub others : List Chain
  pub header : (h : Header) × (pages 0 ≡ Some (header_bytes h))
  pub shared : IsShared pages head (record { free = free; chains = chains_with links others }) []
  pub records : (page slot : ℕ) → held.records page slot ≡ record_in (pages page) slot
  pub lists : (page : ℕ) → held.lists page ≡ list_at others page
  pub places : (page : ℕ) → held.places page ≡ pages_at others page
  pub count : held.free ≡ length free + (head.settings.limit - head.pages)

-- The header names the same catalog, under the same settings.
pub record KeepsCatalog (was now : Header) : Type 0 where
  pub settings : now.settings ≡ was.settings
  pub catalog : now.catalog ≡ was.catalog
  pub catalog_length : now.catalog_length ≡ was.catalog_length

-- The chain has become another, and beside it the same is held: pages go from those that are free to the chain, and back.
pub record KeepsBeside (links : List Link) (was : HeldBeside) (more : List Link) (now : HeldBeside) : Type 0 where
  pub records : now.records ≡ was.records
  pub lists : now.lists ≡ was.lists
  pub places : now.places ≡ was.places
  pub free : now.free + length more ≡ was.free + length links
