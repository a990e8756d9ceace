-- What the pages of a store hold.
use Rattle.std.specs.Prelude.{◌≡◌, ◌≢◌, ◌==◌, if◌then◌else◌, ℕ, ◌+◌, ◌-◌, ◌/◌, ◌<◌, ◌≤◌, List, [], ◌∷◌, ◌++◌, length, slice_index, slice_index_or, Option, Some, None}
use Rattle.std.specs.List.{AllByRecursion}
use Rattle.std.proofs.Math.ListN.{replicate}
use Rattle.nx_numbers.specs.Sizes.{page_room}
use Rattle.nx_numbers.specs.Numbers.{number_bytes}
use Rattle.nx_slots.specs.Slots.{IsSlotted, slots_of}
use Rattle.nx_chain.specs.Chain.{chain_bytes}
use Rattle.nx_replay.specs.Log.{Pages}
use Rattle.nx_holdings.specs.declared.header.Header.{Header}
use Rattle.nx_holdings.specs.declared.header.Settings.{Settings}
use Rattle.nx_holdings.specs.Header.{header_bytes, IsInRange}

-- the pages, with these bytes at one of them
abbrev pub with_page : Pages → ℕ → List ℕ → Pages
with_page pages page bytes p = if p == page then Some bytes else pages p

-- how often a page is among these
abbrev pub times : ℕ → List ℕ → ℕ
times p [] = 0
times p (q ∷ qs) = (if p == q then 1 else 0) + times p qs

-- a free page, whole: four zero bytes, the next free page or 0, and zero bytes
unfoldable pub free_bytes : ℕ → List ℕ
free_bytes next = 0 ∷ 0 ∷ 0 ∷ 0 ∷ number_bytes 4 next ++ replicate page_room 0

-- From this page on the free list has these pages.
abbrev pub IsFreeList : Pages → ℕ → List ℕ → Type 0
IsFreeList pages first [] = first ≡ 0
IsFreeList pages first (p ∷ ps) = (first ≡ p) × ((next : ℕ) × (pages p ≡ Some (free_bytes next)) × IsFreeList pages next ps)

-- a page of a chain, and its content
pub record Link : Type 0 where
  pub page : ℕ
  pub content : List ℕ

-- the page of the first of these, 0 where there is none
abbrev pub next_of : List Link → ℕ
next_of [] = 0
next_of (l ∷ ls) = l.page

-- the page is a chain page with this content and this next page
pub record IsLink (pages : Pages) (link : Link) (next : ℕ) : Type 0 where
  pub there : pages link.page ≡ Some (chain_bytes next link.content)
  pub some : 1 ≤ length link.content
  pub few : length link.content ≤ page_room

-- each of these pages names the next, and all but the last are full
abbrev pub AreLinked : Pages → List Link → Type 0
AreLinked pages [] = Unit {0}
AreLinked pages (l ∷ ls) = IsLink pages l (next_of ls) × (1 ≤ length ls → length l.content ≡ page_room) × AreLinked pages ls

-- a chain: its first page, and those behind it
pub record Chain : Type 0 where
  pub first : Link
  pub rest : List Link

abbrev pub links_of : Chain → List Link
links_of c = c.first ∷ c.rest

abbrev pub content_of : List Link → List ℕ
content_of [] = []
content_of (l ∷ ls) = l.content ++ content_of ls

abbrev pub pages_of_links : List Link → List ℕ
pages_of_links [] = []
pages_of_links (l ∷ ls) = l.page ∷ pages_of_links ls

abbrev pub pages_of_chains : List Chain → List ℕ
pages_of_chains [] = []
pages_of_chains (c ∷ cs) = pages_of_links (links_of c) ++ pages_of_chains cs

-- the byte list of the chain that begins at a page
abbrev pub list_at : List Chain → ℕ → Option (List ℕ)
list_at [] page = None
list_at (c ∷ cs) page = if page == (c.first).page then Some (content_of (links_of c)) else list_at cs page

-- the pages of the chain that begins at a page, in their order
abbrev pub pages_at : List Chain → ℕ → List ℕ
pages_at [] page = []
pages_at (c ∷ cs) page = if page == (c.first).page then pages_of_links (links_of c) else pages_at cs page

-- a byte list, and the pages on which it stands, in their order
pub record OnPages : Type 0 where
  pub bytes : List ℕ
  pub pages : List ℕ

-- what a slot of a page holds
abbrev pub record_in : Option (List ℕ) → ℕ → Option (List ℕ)
record_in None slot = None
record_in (Some bytes) slot = if slice_index bytes 0 == 1 then slice_index_or (slots_of bytes) slot None else None

-- the page is a slotted page with a record
pub record IsUsed (pages : Pages) (page : ℕ) : Type 0 where
  pub bytes : List ℕ
  pub there : pages page ≡ Some bytes
  pub slotted : IsSlotted bytes
  pub some : slots_of bytes ≢ []

-- The pages that aren't slotted: free pages in the order of their list, and chains.
pub record Shares : Type 0 where
  pub free : List ℕ
  pub chains : List Chain

-- these, the header and the pages that are in no use
abbrev pub named : Shares → List ℕ → List ℕ
named s loose = 0 ∷ (s.free ++ (pages_of_chains s.chains ++ loose))

-- Each page below the header's number has one use: it is the header, a page of the free list, a page of one chain, or a slotted page with a record; no page
-- is there past it. Within a call some pages may be loose, in no use.
pub record IsShared (pages : Pages) (head : Header) (s : Shares) (loose : List ℕ) : Type 0 where
  pub free : IsFreeList pages head.free s.free
  pub chains : AllByRecursion (λ c. AreLinked pages (links_of c)) s.chains
  pub once : (p : ℕ) → times p (named s loose) ≤ 1
  pub below : (p : ℕ) → 1 ≤ times p (named s loose) → p < head.pages
  pub slotted : (p : ℕ) → p < head.pages → times p (named s loose) ≡ 0 → IsUsed pages p
  pub room : head.room ≢ 0 → (head.room < head.pages) × (times head.room (named s loose) ≡ 0)
  pub none_past : (p : ℕ) → head.pages ≤ p → pages p ≡ None

-- What sound pages hold.
pub record Held : Type 0 where
  pub settings : Settings
  -- the record at a page and a slot of it
  pub records : ℕ → ℕ → Option (List ℕ)
  -- the byte list at a first page, the catalog's aside
  pub lists : ℕ → Option (List ℕ)
  pub catalog : OnPages
  -- how many pages are free
  pub free : ℕ

-- Page 0 is a header, and behind it the pages are shared out by this header and hold this.
pub record HoldsBehind (pages : Pages) (head : Header) (held : Held) : Type 0 where
  pub shares : Shares
  pub header : (h : Header) × (pages 0 ≡ Some (header_bytes h))
  pub shared : IsShared pages head shares []
  pub settings : held.settings ≡ head.settings
  pub records : (page slot : ℕ) → held.records page slot ≡ record_in (pages page) slot
  pub lists : (page : ℕ) → held.lists page ≡ (if page == head.catalog then None else list_at shares.chains page)
  pub catalog : list_at shares.chains head.catalog ≡ Some held.catalog.bytes
  pub catalog_pages : pages_at shares.chains head.catalog ≡ held.catalog.pages
  pub catalog_length : length held.catalog.bytes ≡ head.catalog_length
  pub free : held.free ≡ length shares.free + (head.settings.limit - head.pages)

-- The pages are sound, with this header, and hold this.
pub record HoldsBy (pages : Pages) (head : Header) (held : Held) : Type 0 where
  pub here : pages 0 ≡ Some (header_bytes head)
  pub range : IsInRange head
  pub behind : HoldsBehind pages head held

-- The pages are sound, and hold this.
abbrev pub Holds : Pages → Held → Type 0
Holds pages held = (head : Header) × HoldsBy pages head held

-- so many chain pages a list of so many bytes takes
abbrev pub chain_count : ℕ → ℕ
chain_count n = (n + (page_room - 1)) / page_room
