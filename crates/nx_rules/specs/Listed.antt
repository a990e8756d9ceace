-- The header, the free list and byte lists, as far as a walk over the pages of a store has come, where what it came to keeps the rules.
use Rattle.std.specs.Prelude.{◌≡◌, ◌≢◌, ℕ, ◌+◌, ◌*◌, ◌^◌, ◌<◌, ◌≤◌, List, [], ◌∷◌, ◌++◌, length, Some}
use Rattle.nx_numbers.specs.Sizes.{page_room}
use Rattle.nx_slots.specs.Slots.{IsSlotted}
use Rattle.nx_replay.specs.Log.{Pages}
use Rattle.nx_holdings.specs.declared.header.Header.{Header}
use Rattle.nx_holdings.specs.Header.{header_bytes, IsInRange}
use Rattle.nx_holdings.specs.Holdings.{free_bytes, times, Link, IsLink, pages_of_links}

-- no page comes twice among these
abbrev pub AreUsedOnce : List ℕ → Type 0
AreUsedOnce ps = (p : ℕ) → times p ps ≤ 1

-- The header.

-- the page is slotted
pub record IsSlottedPage (pages : Pages) (page : ℕ) (bytes : List ℕ) : Type 0 where
  pub there : pages page ≡ Some bytes
  pub slotted : IsSlotted bytes

-- Page 0 is this header, and the page that is tried first for a new record, where there is one, is slotted.
pub record HasHeaderPage (pages : Pages) (head : Header) : Type 0 where
  pub here : pages 0 ≡ Some (header_bytes head)
  pub range : IsInRange head
  pub room : head.room ≢ 0 → (bytes : List ℕ) × IsSlottedPage pages head.room bytes

-- The free list.

-- the last of these, or what stands before them
abbrev pub last_page : ℕ → List ℕ → ℕ
last_page before [] = before
last_page before (p ∷ ps) = last_page p ps

-- the page is a free page with this next one, 0 for none
pub record IsFreePageAt (pages : Pages) (page next : ℕ) : Type 0 where
  pub there : pages page ≡ Some (free_bytes next)
  pub low : next < 2 ^ 32

-- free pages one after the other, from the first on; the last of them names the next
abbrev pub AreFreeFrom : Pages → ℕ → List ℕ → ℕ → Type 0
AreFreeFrom pages first [] next = first ≡ next
AreFreeFrom pages first (p ∷ ps) next = (first ≡ p) × (p ≢ 0) × ((behind : ℕ) × IsFreePageAt pages p behind × AreFreeFrom pages behind ps next)

-- The free list up to a page, or whole where the next is 0: each page is below the header's number and comes once.
pub record IsFreeTo (pages : Pages) (head : Header) (free : List ℕ) (next : ℕ) : Type 0 where
  pub linked : AreFreeFrom pages head.free free next
  pub below : (p : ℕ) → 1 ≤ times p free → p < head.pages
  pub once : AreUsedOnce free

-- Byte lists.

-- the page is a chain page with this content and this next page, 0 for none
pub record IsLinkTo (pages : Pages) (link : Link) (next : ℕ) : Type 0 where
  pub is : IsLink pages link next
  pub low : next < 2 ^ 32

-- full chain pages one after the other, from the first on; each of them names another, the last of them the next
abbrev pub AreFullFrom : Pages → ℕ → List Link → ℕ → Type 0
AreFullFrom pages first [] next = first ≡ next
AreFullFrom pages first (l ∷ ls) next = (first ≡ l.page) × (length l.content ≡ page_room) × ((behind : ℕ) × (behind ≢ 0) × IsLinkTo pages l behind × AreFullFrom pages behind ls next)

-- A list of so many bytes up to a page, where more of it is to come: no page was used before or comes twice.
pub record IsListTo (pages : Pages) (used : List ℕ) (first size : ℕ) (links : List Link) (next : ℕ) : Type 0 where
  pub linked : AreFullFrom pages first links next
  pub more : page_room * length links < size
  pub once : AreUsedOnce (used ++ pages_of_links links)

-- The whole list: a last page holds what is left of it, and names none.
pub record IsListOf (pages : Pages) (used : List ℕ) (first size : ℕ) (links : List Link) : Type 0 where
  pub front : List Link
  pub last : Link
  pub are : links ≡ front ++ last ∷ []
  pub to : IsListTo pages used first size front last.page
  pub end : IsLinkTo pages last 0
  pub left : page_room * length front + length last.content ≡ size
  pub fresh : times last.page (used ++ pages_of_links front) ≡ 0
