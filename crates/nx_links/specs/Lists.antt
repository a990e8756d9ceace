-- Byte lists on chain pages.
use Rattle.std.specs.Prelude.{◌≡◌, ◌≢◌, ◌⊎◌, ◌++◌, ℕ, ◌<◌, ◌≤◌, List, Some}
use Rattle.nx_replay.specs.Log.{Pages}
use Rattle.nx_chain.specs.Chain.{IsChainPage, chain_bytes}
use Rattle.nx_holdings.specs.declared.header.Header.{Header}
use Rattle.nx_holdings.specs.Holdings.{Link, AreLinked, next_of, content_of, pages_of_links, times, Held, HoldsBy}

-- The page is the chain page with this next page and this content.
pub record IsLinkAt (pages : Pages) (page next : ℕ) (content : List ℕ) : Type 0 where
  pub bytes : List ℕ
  pub there : pages page ≡ Some bytes
  pub is : IsChainPage bytes next content

-- From this page on, 0 for none, chain pages below the limit hold these bytes.
pub record IsListFrom (limit : ℕ) (pages : Pages) (page : ℕ) (bytes : List ℕ) : Type 0 where
  pub links : List Link
  pub linked : AreLinked pages links
  pub low : (p : ℕ) → 1 ≤ times p (pages_of_links links) → (1 ≤ p) × (p < limit)
  pub first : next_of links ≡ page
  pub are : content_of links ≡ bytes

-- a chain page names this page, which isn't 0, as its next
abbrev pub IsNamed : Pages → ℕ → Type 0
IsNamed pages page = (page ≢ 0) × ((by : ℕ) × ((content : List ℕ) × (pages by ≡ Some (chain_bytes page content))))

-- A page adds its content in front of what the next one begins, and is the only way to do so.
pub record IsListStep (limit : ℕ) (pages : Pages) (page next : ℕ) (content : List ℕ) : Type 0 where
  pub on : (rest : List ℕ) → IsListFrom limit pages next rest → IsListFrom limit pages page (content ++ rest)
  pub back : (bytes : List ℕ) → IsListFrom limit pages page bytes → (rest : List ℕ) × (bytes ≡ content ++ rest) × IsListFrom limit pages next rest

-- how far a list was read: what is left of each list that begins there begins at the page, and the other way round
pub record IsReadTo (limit : ℕ) (pages : Pages) (first : ℕ) (so_far : List ℕ) (page : ℕ) : Type 0 where
  pub on : (rest : List ℕ) → IsListFrom limit pages page rest → IsListFrom limit pages first (so_far ++ rest)
  pub back : (bytes : List ℕ) → IsListFrom limit pages first bytes → (rest : List ℕ) × (bytes ≡ so_far ++ rest) × IsListFrom limit pages page rest

-- A list that sound pages hold stands on the pages from its first one on, and nothing else does.
abbrev pub ListsStand : Type 0
ListsStand = (pages : Pages) (head : Header) (held : Held) (page : ℕ) (bytes : List ℕ) → HoldsBy pages head held → held.lists page ≡ Some bytes
    → IsListFrom head.pages pages page bytes × ((other : List ℕ) → IsListFrom head.pages pages page other → other ≡ bytes)

-- What stands on chain pages from one on, that isn't the catalog's first, is a list that is held, or another chain page names that page as its next.
abbrev pub ListsAreHeld : Type 0
ListsAreHeld = (pages : Pages) (head : Header) (held : Held) (page : ℕ) (bytes : List ℕ) → HoldsBy pages head held → page ≢ 0 → page ≢ head.catalog
    → IsListFrom head.pages pages page bytes → (held.lists page ≡ Some bytes) ⊎ IsNamed pages page
