-- What a call makes of what records hold.
use Rattle.std.specs.Prelude.{◌≡◌, ◌==◌, ◌&&◌, if◌then◌else◌, nat_lt, ℕ, ◌+◌, ◌-◌, ◌≤◌, List, [], ◌∷◌, ◌++◌, length, take, drop, Option, Some, None, IsSome, MatchOption}
use Rattle.std.proofs.Math.ListN.{replicate}
use Rattle.nx_holdings.specs.declared.header.Settings.{Settings}
use Rattle.nx_holdings.specs.Holdings.{Held, chain_count}
use Rattle.nx_holdings.specs.Laws.{pages_of_list}
use Rattle.nx_replay.specs.Log.{Pages}
use Rattle.nx_links.specs.Lists.{IsListFrom, IsNamed}

-- the records, with this at one place
abbrev pub records_with : (ℕ → ℕ → Option (List ℕ)) → ℕ → ℕ → Option (List ℕ) → ℕ → ℕ → Option (List ℕ)
records_with records page slot record_there p s = if (p == page) && (s == slot) then record_there else records p s

-- the lists, with this at one first page
abbrev pub lists_with : (ℕ → Option (List ℕ)) → ℕ → Option (List ℕ) → ℕ → Option (List ℕ)
lists_with lists first list_there p = if p == first then list_there else lists p

-- what a new store holds
abbrev pub nothing_held : Settings → Held
nothing_held settings = record { settings = settings; records = λ p s. None; lists = λ p. None; catalog = record { bytes = replicate 8 0; pages = 1 ∷ [] }; free = settings.limit - 2 }

-- the records alone are changed
pub record ChangesRecords (was now : Held) (changed : ℕ → ℕ → Option (List ℕ)) : Type 0 where
  pub records : now.records ≡ changed
  pub lists : now.lists ≡ was.lists
  pub catalog : now.catalog ≡ was.catalog
  pub settings : now.settings ≡ was.settings

-- A record was put at a place that was free, and at most one page fewer is free.
pub record AddsRecord (page slot : ℕ) (bytes : List ℕ) (was now : Held) : Type 0 where
  pub was_none : was.records page slot ≡ None
  pub changes : ChangesRecords was now (records_with was.records page slot (Some bytes))
  pub free : was.free ≤ now.free + 1

-- one page where the bytes are longer than those that were there
abbrev pub needs_than : Option (List ℕ) → List ℕ → ℕ
needs_than None bytes = 0
needs_than (Some old) bytes = if nat_lt (length old) (length bytes) then 1 else 0

-- how many pages an update may need
abbrev pub update_needs : ℕ → ℕ → List ℕ → Held → ℕ
update_needs page slot bytes was = needs_than (was.records page slot) bytes

-- The record of a place was replaced, at its place or at one that had none; at its place where the bytes are no longer than the old ones.
pub record UpdatesRecord (page slot : ℕ) (bytes : List ℕ) (new_page new_slot : ℕ) (was now : Held) : Type 0 where
  pub was_there : IsSome (was.records page slot)
  pub was_none : records_with was.records page slot None new_page new_slot ≡ None
  pub changes : ChangesRecords was now (records_with (records_with was.records page slot None) new_page new_slot (Some bytes))
  pub stays : update_needs page slot bytes was ≡ 0 → (new_page ≡ page) × (new_slot ≡ slot)
  pub free : was.free ≤ now.free + update_needs page slot bytes was

-- The record of a place was taken away, and no page fewer is free.
pub record RemovesRecord (page slot : ℕ) (was now : Held) : Type 0 where
  pub was_there : IsSome (was.records page slot)
  pub changes : ChangesRecords was now (records_with was.records page slot None)
  pub free : was.free ≤ now.free

-- no list of this length is at the first page
abbrev pub LacksList : Held → (first len : ℕ) → Type 0
LacksList held first len = (list : List ℕ) → held.lists first ≡ Some list → length list ≡ len → ⊥

-- The bytes are the list at the first page. Where none is there, the page is one behind the first of a chain: it isn't 0, and another page names it.
abbrev pub IsListRead : Pages → Held → (first : ℕ) → (bytes : List ℕ) → Type 0
IsListRead pages held first bytes = MatchOption (held.lists first) (IsNamed pages first) (λ list. bytes ≡ list)

-- From this page on, 0 for none, chain pages below the limit hold just so many bytes.
abbrev pub HasListFrom : ℕ → Pages → (page len : ℕ) → Type 0
HasListFrom limit pages page len = (bytes : List ℕ) × (length bytes ≡ len) × IsListFrom limit pages page bytes

-- the lists alone are changed
pub record ChangesLists (was now : Held) (changed : ℕ → Option (List ℕ)) : Type 0 where
  pub lists : now.lists ≡ changed
  pub records : now.records ≡ was.records
  pub catalog : now.catalog ≡ was.catalog
  pub settings : now.settings ≡ was.settings

-- A list was put at a first page that had none, and at most its chain pages fewer are free.
pub record WritesList (first : ℕ) (bytes : List ℕ) (was now : Held) : Type 0 where
  pub was_none : was.lists first ≡ None
  pub changes : ChangesLists was now (lists_with was.lists first (Some bytes))
  pub free : was.free ≤ now.free + chain_count (length bytes)

-- The list at a first page was taken away, and its chain pages are free.
pub record FreesList (first : ℕ) (was now : Held) : Type 0 where
  pub changes : ChangesLists was now (lists_with was.lists first None)
  pub free : was.free + pages_of_list (was.lists first) ≤ now.free

-- The list at a first page has other bytes, and at most so many fewer pages are free as these take more.
pub record ChangesList (first : ℕ) (bytes : List ℕ) (was now : Held) : Type 0 where
  pub changes : ChangesLists was now (lists_with was.lists first (Some bytes))
  pub free : was.free + pages_of_list (was.lists first) ≤ now.free + chain_count (length bytes)

-- The catalog was replaced. Its old chain pages are free, and at most so many fewer as the new ones are.
pub record SetsCatalog (bytes : List ℕ) (was now : Held) : Type 0 where
  pub catalog : now.catalog.bytes ≡ bytes
  pub records : now.records ≡ was.records
  pub lists : now.lists ≡ was.lists
  pub settings : now.settings ≡ was.settings
  pub free : was.free + chain_count (length was.catalog.bytes) ≤ now.free + chain_count (length bytes)

-- how many chain pages a new catalog may need beyond those of the old one
abbrev pub catalog_needs : List ℕ → Held → ℕ
catalog_needs bytes was = chain_count (length bytes) - chain_count (length was.catalog.bytes)

-- the bytes, with others in the place of as many of them from an offset on
abbrev pub patched : (at : ℕ) → (others bytes : List ℕ) → List ℕ
patched at others bytes = take at bytes ++ (others ++ drop (at + length others) bytes)

-- Bytes were put in the place of as many of the catalog's, from an offset on. It stands on the pages on which it stood.
pub record PatchesCatalog (at : ℕ) (bytes : List ℕ) (was now : Held) : Type 0 where
  pub sets : SetsCatalog (patched at bytes was.catalog.bytes) was now
  pub pages : now.catalog.pages ≡ was.catalog.pages
