-- The first rule that pages break: what a walk came to before keeps all rules, and what it comes to next breaks this one.
use Rattle.std.specs.Prelude.{◌≡◌, ◌≢◌, ◌⊎◌, ℕ, ◌-◌, ◌*◌, ◌<◌, ◌≤◌, min, Bool, true, false, ◌||◌, if◌then◌else◌, List, [], ◌∷◌, ◌++◌, length, None, Some, IsSome, All, Contains}
use Rattle.nx_numbers.specs.Sizes.{page_room}
use Rattle.nx_slots.specs.Slots.{IsSlotted}
use Rattle.nx_chain.specs.Chain.{IsChainPage}
use Rattle.nx_replay.specs.Log.{Pages, HasMark}
use Rattle.nx_holdings.specs.declared.header.Header.{Header}
use Rattle.nx_holdings.specs.Free.{IsFreePage}
use Rattle.nx_holdings.specs.Holdings.{times, record_in, Link, content_of, pages_of_links}
use Rattle.nx_piece.specs.declared.piece.Far.{Far}
use Rattle.nx_piece.specs.declared.piece.Stored.{Stored}
use Rattle.nx_piece.specs.Decoded.{IsDecoded}
use Rattle.nx_piece.specs.Gapped.{gapped_size}
use Rattle.nx_cuts.specs.Cut.{Bare, Grown, Kept, width}
use Rattle.nx_layouts.specs.Layout.{RecordPlace}
use Rattle.nx_catalog.specs.Catalog.{Contents, IsCatalog}
use Rattle.nx_rules.specs.declared.verdict.PageRule.{PageRule}
use Rattle.nx_rules.specs.declared.verdict.PageRule.TheVariants as rule
use Rattle.nx_rules.specs.Listed.{AreUsedOnce, IsSlottedPage, HasHeaderPage, last_page, IsFreeTo, IsListTo, IsListOf}
use Rattle.nx_rules.specs.Walked.{Reached, Waits, Walked, walked_forest, walked_body, marks_of, ByCatalog, naming_page, Named, named_place, waiting_in, WaitAll, IsRecordAt, lists_named, StandOn, links_behind, HoldsRecord, AreRead, IsSoFar}
use Rattle.nx_rules.specs.Tour.{Visit, HasItsNodes, IsDone, all_reached, Tour, used_in, IsTour, IsInUse}

-- A page is to blame: the one that is named, or the one that names it where that isn't there.
abbrev pub Blames : Pages → (by named : ℕ) → (List ℕ → Type 0) → ℕ → Type 0
Blames pages by named Bad page = ((page ≡ by) × (pages named ≡ None)) ⊎ ((page ≡ named) × ((bytes : List ℕ) × (pages named ≡ Some bytes) × Bad bytes))

-- Page 0 begins as that of a store, and is no header, or its room page isn't slotted.
abbrev pub BreaksHeader : Pages → Type 0
BreaksHeader pages = HasMark pages × ((head : Header) → HasHeaderPage pages head → ⊥)

-- the page can't be the next one of a free list that has these
abbrev pub IsNoFree : Header → List ℕ → ℕ → List ℕ → Type 0
IsNoFree head free page bytes = (next : ℕ) → IsFreePage bytes next → page < head.pages → times page free ≡ 0 → ⊥

-- The free list goes on to a page that it can't have.
pub record BreaksFree (pages : Pages) (page : ℕ) : Type 0 where
  pub head : Header
  pub header : HasHeaderPage pages head
  pub free : List ℕ
  pub next : ℕ
  pub to : IsFreeTo pages head free next
  pub goes_on : next ≢ 0
  pub blamed : Blames pages (last_page 0 free) next (IsNoFree head free next) page

-- a chain page may have this content and this next page where so many bytes are left
pub record FitsThere (left next : ℕ) (content : List ℕ) : Type 0 where
  pub holds : length content ≡ min left page_room
  pub ends : left ≤ page_room → next ≡ 0
  pub goes_on : page_room < left → next ≢ 0

-- the page can't be the next one of a list that has so many bytes left, where these pages are used
abbrev pub IsNoLink : (used : List ℕ) (left page : ℕ) → List ℕ → Type 0
IsNoLink used left page bytes = (next : ℕ) (content : List ℕ) → IsChainPage bytes next content → times page used ≡ 0 → FitsThere left next content → ⊥

-- The list of so many bytes that begins at a page goes on to a page that it can't have.
pub record BreaksList (pages : Pages) (used : List ℕ) (by first size : ℕ) (page : ℕ) : Type 0 where
  pub links : List Link
  pub next : ℕ
  pub to : IsListTo pages used first size links next
  pub blamed : Blames pages (last_page by (pages_of_links links)) next (IsNoLink (used ++ pages_of_links links) (size - page_room * length links) next) page

-- the header and the free list keep the rules
pub record IsBegunWith (pages : Pages) (head : Header) : Type 0 where
  pub header : HasHeaderPage pages head
  pub free : List ℕ
  pub whole : IsFreeTo pages head free 0

-- The catalog has no chain of its length.
pub record BreaksCatalogChain (pages : Pages) (page : ℕ) : Type 0 where
  pub head : Header
  pub begun : IsBegunWith pages head
  pub breaks : BreaksList pages [] 0 head.catalog head.catalog_length page

-- Its bytes are those of no catalog.
pub record BreaksCatalog (pages : Pages) (page : ℕ) : Type 0 where
  pub head : Header
  pub begun : IsBegunWith pages head
  pub links : List Link
  pub list : IsListOf pages [] head.catalog head.catalog_length links
  pub none : (contents : Contents) → IsCatalog (content_of links) contents → ⊥
  pub blamed : page ≡ head.catalog

-- whether the record of an interval waits
abbrev pub waits : Walked → Bool
waits Bare = false
waits (Grown node below beside) = waits below || waits beside
waits (Kept (Reached place links) members beside) = waits members || waits beside
waits (Kept (Waits proxy) members beside) = true

-- the trees with the first record that waits reached, which has these trees
abbrev pub reached_first : RecordPlace → List (List Link) → Walked → Walked → Walked
reached_first place chains new Bare = Bare
reached_first place chains new (Grown node below beside) =
    if waits below then Grown node (reached_first place chains new below) beside else Grown node below (reached_first place chains new beside)
reached_first place chains new (Kept (Reached there others) members beside) =
    if waits members then Kept (Reached there others) (reached_first place chains new members) beside else Kept (Reached there others) members (reached_first place chains new beside)
reached_first place chains new (Kept (Waits proxy) members beside) = Kept (Reached place chains) new beside

-- Of this document the walk comes to this record next; the documents before it are done.
pub record ComesNext (tour : Tour) (visit : Visit) (named : Named) : Type 0 where
  pub before : List Visit
  pub after : List Visit
  pub are : tour.visits ≡ before ++ visit ∷ after
  pub done : All IsDone before
  pub others : List Named
  pub next : waiting_in ByCatalog visit.walked ≡ named ∷ others

-- the record is there, and wasn't reached before
pub record IsNewRecord (pages : Pages) (tour : Tour) (named : Named) (bytes : List ℕ) : Type 0 where
  pub found : IsRecordAt pages (named_place named) bytes
  pub fresh : Contains (all_reached tour.visits) (named_place named) → ⊥

-- It is a piece of these trees, whose lists stand on these chain pages, which no list uses yet.
pub record IsReadFirst (pages : Pages) (tour : Tour) (named : Named) (chains : List (List Link)) (new : Walked) : Type 0 where
  pub fresh : Contains (all_reached tour.visits) (named_place named) → ⊥
  pub holds : HoldsRecord pages (named_place named) new chains
  pub read : AreRead pages new
  pub wait : WaitAll (marks_of new)
  pub unused : AreUsedOnce (used_in tour ++ pages_of_links (links_behind chains))

-- one of these lists breaks, and those before it stand on chain pages that no list uses yet
pub record BreaksNamed (pages : Pages) (used : List ℕ) (by : ℕ) (lists : List Far) (page : ℕ) : Type 0 where
  pub before : List Far
  pub far : Far
  pub after : List Far
  pub are : lists ≡ before ++ far ∷ after
  pub chains : List (List Link)
  pub stand : StandOn pages before chains
  pub once : AreUsedOnce (used ++ pages_of_links (links_behind chains))
  pub breaks : BreaksList pages (used ++ pages_of_links (links_behind chains)) by far.first far.length page

-- it has as many roots as the proxy says; the catalog says none
abbrev pub HasRoots : Named → Walked → Type 0
HasRoots named new = named.by ≡ ByCatalog ⊎ (width new ≡ named.proxy.roots)

-- with its nodes those that were reached are still of a document
abbrev pub MayStand : Named → Visit → List (List Link) → Walked → Type 0
MayStand named visit chains new = IsSoFar (walked_forest (reached_first (named_place named) chains new visit.walked))

module _ (pages : Pages) (tour : Tour) (visit : Visit) (named : Named) where
  -- The page that is named isn't there, or it is slotted and has no such record.
  abbrev pub BreaksMissing : ℕ → Type 0
  BreaksMissing page =
      (page ≡ naming_page named.by) × ((pages named.proxy.page ≡ None) ⊎ ((bytes : List ℕ) × IsSlottedPage pages named.proxy.page bytes × (record_in (Some bytes) named.proxy.slot ≡ None)))

  -- It isn't slotted.
  abbrev pub BreaksSlotted : ℕ → Type 0
  BreaksSlotted page = (page ≡ named.proxy.page) × ((bytes : List ℕ) × (pages named.proxy.page ≡ Some bytes) × (IsSlotted bytes → ⊥))

  -- The record was reached before.
  abbrev pub BreaksTwice : ℕ → Type 0
  BreaksTwice page = (page ≡ named.proxy.page) × ((bytes : List ℕ) × IsRecordAt pages (named_place named) bytes × Contains (all_reached tour.visits) (named_place named))

  -- It is no piece.
  abbrev pub BreaksForm : ℕ → Type 0
  BreaksForm page = (page ≡ named.proxy.page) × ((bytes : List ℕ) × IsNewRecord pages tour named bytes × IsDecoded bytes None)

  -- It names lists, and one of them has no chain of its length.
  abbrev pub BreaksChain : ℕ → Type 0
  BreaksChain page = (bytes : List ℕ) × (stored : Stored) × IsNewRecord pages tour named bytes × IsDecoded bytes (Some stored) × BreaksNamed pages (used_in tour) named.proxy.page (lists_named stored) page

  -- It has another number of roots than the proxy says.
  abbrev pub BreaksRoots : ℕ → Type 0
  BreaksRoots page = (page ≡ named.proxy.page) × ((chains : List (List Link)) × (new : Walked) × IsReadFirst pages tour named chains new × (HasRoots named new → ⊥))

  -- No document has its nodes there.
  abbrev pub BreaksDocument : ℕ → Type 0
  BreaksDocument page =
      (page ≡ named.proxy.page) × ((chains : List (List Link)) × (new : Walked) × IsReadFirst pages tour named chains new × HasRoots named new × (MayStand named visit chains new → ⊥))

  -- Its node items take more slots than the store's K.
  abbrev pub BreaksWeight : ℕ → Type 0
  BreaksWeight page =
      (page ≡ named.proxy.page)
      × ((chains : List (List Link)) × (new : Walked) × IsReadFirst pages tour named chains new × HasRoots named new × MayStand named visit chains new × (tour.head.settings.k < gapped_size (walked_body new)))

-- The walk comes to a record that breaks a rule.
pub record AtRecord (pages : Pages) (Breaks : Tour → Visit → Named → Type 0) : Type 0 where
  pub tour : Tour
  pub kept : IsTour pages tour
  pub visit : Visit
  pub named : Named
  pub comes : ComesNext tour visit named
  pub breaks : Breaks tour visit named

-- All of a document was reached, and nothing of those behind it: it has no element or another number of nodes.
pub record BreaksNodes (pages : Pages) (page : ℕ) : Type 0 where
  pub tour : Tour
  pub kept : IsTour pages tour
  pub before : List Visit
  pub visit : Visit
  pub after : List Visit
  pub are : tour.visits ≡ before ++ visit ∷ after
  pub done : All IsDone before
  pub whole : waiting_in ByCatalog visit.walked ≡ []
  pub not_begun : all_reached after ≡ []
  pub wrong : HasItsNodes visit → ⊥
  pub blamed : page ≡ visit.entry.root.page

-- the first page below the header's number that isn't in use; or, where all of them are, the greatest page, which is at that number or past it
abbrev pub IsUnused : Pages → Tour → ℕ → Type 0
IsUnused pages tour page =
    ((page < tour.head.pages) × (IsInUse pages tour page → ⊥) × ((p : ℕ) → p < page → IsInUse pages tour p))
    ⊎ (((p : ℕ) → p < tour.head.pages → IsInUse pages tour p) × (tour.head.pages ≤ page) × IsSome (pages page) × ((p : ℕ) → page < p → pages p ≡ None))

-- All documents were reached.
pub record BreaksUnused (pages : Pages) (page : ℕ) : Type 0 where
  pub tour : Tour
  pub kept : IsTour pages tour
  pub done : All IsDone tour.visits
  pub blamed : IsUnused pages tour page

-- The rule is the first that the pages break, and this page is to blame.
abbrev pub IsFirstBroken : Pages → PageRule → ℕ → Type 0
IsFirstBroken pages rule.Header page = (page ≡ 0) × BreaksHeader pages
IsFirstBroken pages rule.Free page = BreaksFree pages page
IsFirstBroken pages rule.Catalog page = BreaksCatalog pages page
IsFirstBroken pages rule.Slotted page = AtRecord pages (λ tour visit named. BreaksSlotted pages tour visit named page)
IsFirstBroken pages rule.Missing page = AtRecord pages (λ tour visit named. BreaksMissing pages tour visit named page)
IsFirstBroken pages rule.Form page = AtRecord pages (λ tour visit named. BreaksForm pages tour visit named page)
IsFirstBroken pages rule.Chain page = BreaksCatalogChain pages page ⊎ AtRecord pages (λ tour visit named. BreaksChain pages tour visit named page)
IsFirstBroken pages rule.Roots page = AtRecord pages (λ tour visit named. BreaksRoots pages tour visit named page)
IsFirstBroken pages rule.Twice page = AtRecord pages (λ tour visit named. BreaksTwice pages tour visit named page)
IsFirstBroken pages rule.Document page = AtRecord pages (λ tour visit named. BreaksDocument pages tour visit named page)
IsFirstBroken pages rule.Weight page = AtRecord pages (λ tour visit named. BreaksWeight pages tour visit named page)
IsFirstBroken pages rule.Nodes page = BreaksNodes pages page
IsFirstBroken pages rule.Unused page = BreaksUnused pages page
