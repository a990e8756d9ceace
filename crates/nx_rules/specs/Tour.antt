-- How far a walk over the pages of a store has come, where all that it came to so far keeps the rules.
use Rattle.std.specs.Prelude.{◌≡◌, ◌≢◌, ◌⊎◌, ℕ, ◌<◌, ◌≤◌, List, [], ◌∷◌, ◌++◌, map, None, Some, IsSome, All, Contains}
use Rattle.std.specs.FinMap.{entries}
use Rattle.nx_tree.specs.Forest.{Forest, Empty, Plant, nodes}
use Rattle.nx_tree.specs.Document.{element_count, most_nodes}
use Rattle.nx_slots.specs.Slots.{slots_of}
use Rattle.nx_replay.specs.Log.{Pages}
use Rattle.nx_holdings.specs.declared.header.Header.{Header}
use Rattle.nx_holdings.specs.Holdings.{times, record_in, Link, content_of, pages_of_links}
use Rattle.nx_cuts.specs.Cut.{Bare, Kept}
use Rattle.nx_layouts.specs.Layout.{RecordPlace, proxy_of, ArePlacedOnce}
use Rattle.nx_hold.specs.declared.entry.DocEntry.{DocEntry}
use Rattle.nx_hold.specs.Changes.{place_of}
use Rattle.nx_catalog.specs.Catalog.{Contents, IsCatalog}
use Rattle.nx_rules.specs.Listed.{AreUsedOnce, IsSlottedPage, HasHeaderPage, IsFreeTo, IsListOf}
use Rattle.nx_rules.specs.Walked.{Mark, Reached, Waits, Walked, walked_forest, marks_of, records_reached, links_in, ByCatalog, waiting_in, AreWalkedInOrder, AreRead, AreAllLight, IsSoFar}

-- a document of the catalog, as far as a walk has come
pub record Visit : Type 0 where
  pub name : List ℕ
  pub entry : DocEntry
  pub walked : Walked

-- nothing of it was reached, or the record that the catalog names, and maybe others
abbrev pub IsFromRoot : DocEntry → Walked → Type 0
IsFromRoot entry walked =
    (walked ≡ Kept (Waits (proxy_of (place_of entry.root) 1)) Bare Bare) ⊎ ((chains : List (List Link)) × (members : Walked) × (walked ≡ Kept (Reached (place_of entry.root) chains) members Bare))

-- What was reached of the document keeps the rules.
pub record IsVisit (pages : Pages) (k : ℕ) (visit : Visit) : Type 0 where
  pub root : IsFromRoot visit.entry visit.walked
  pub read : AreRead pages visit.walked
  pub document : IsSoFar (walked_forest visit.walked)
  pub light : AreAllLight k visit.walked

-- how many elements stand right below the root
abbrev pub top_elements : Forest → ℕ
top_elements Empty = 0
top_elements (Plant node below beside) = element_count below

-- The document has an element, and its nodes are as many as the catalog says and not too many.
pub record HasItsNodes (visit : Visit) : Type 0 where
  pub element : 1 ≤ top_elements (walked_forest visit.walked)
  pub counted : nodes (walked_forest visit.walked) ≡ visit.entry.nodes
  pub few : nodes (walked_forest visit.walked) ≤ most_nodes

-- all of it was reached, and its number of nodes is right
pub record IsDone (visit : Visit) : Type 0 where
  pub whole : waiting_in ByCatalog visit.walked ≡ []
  pub nodes : HasItsNodes visit

abbrev pub all_marks : List Visit → List Mark
all_marks [] = []
all_marks (v ∷ visits) = marks_of v.walked ++ all_marks visits

abbrev pub all_reached : List Visit → List RecordPlace
all_reached [] = []
all_reached (v ∷ visits) = records_reached v.walked ++ all_reached visits

abbrev pub all_links : List Visit → List Link
all_links [] = []
all_links (v ∷ visits) = links_in v.walked ++ all_links visits

-- what a walk has come to: the header, the free list, the catalog's chain and what it says, and the documents so far
pub record Tour : Type 0 where
  pub head : Header
  pub free : List ℕ
  pub catalog : List Link
  pub contents : Contents
  pub visits : List Visit

-- the chain pages that lists use
abbrev pub used_in : Tour → List ℕ
used_in tour = pages_of_links (tour.catalog ++ all_links tour.visits)

-- The header, the free list and the catalog keep the rules, and so does what was reached of the documents, in their order.
pub record IsTour (pages : Pages) (tour : Tour) : Type 0 where
  pub header : HasHeaderPage pages tour.head
  pub free : IsFreeTo pages tour.head tour.free 0
  pub list : IsListOf pages [] tour.head.catalog tour.head.catalog_length tour.catalog
  pub catalog : IsCatalog (content_of tour.catalog) tour.contents
  pub named : map (λ v. (v.name, v.entry)) tour.visits ≡ entries tour.contents.documents
  pub each : All (IsVisit pages tour.head.settings.k) tour.visits
  pub order : AreWalkedInOrder (all_marks tour.visits)
  pub once : ArePlacedOnce (all_reached tour.visits)
  pub lists_once : AreUsedOnce (used_in tour)

-- The page is the header, a free page, a chain page that a list uses, or a slotted page with records, all of which were reached.
abbrev pub IsInUse : Pages → Tour → ℕ → Type 0
IsInUse pages tour page =
    (page ≡ 0) ⊎ (1 ≤ times page tour.free) ⊎ (1 ≤ times page (used_in tour))
    ⊎ ((bytes : List ℕ) × IsSlottedPage pages page bytes × (slots_of bytes ≢ []) × ((slot : ℕ) → IsSome (record_in (Some bytes) slot) → Contains (all_reached tour.visits) (record { page = page; slot = slot })))

-- The walk has come to its end: each document is done, each page below the header's number is in use, and none is there from it on.
pub record IsWholeTour (pages : Pages) (tour : Tour) : Type 0 where
  pub kept : IsTour pages tour
  pub done : All IsDone tour.visits
  pub used : (p : ℕ) → p < tour.head.pages → IsInUse pages tour p
  pub none_past : (p : ℕ) → tour.head.pages ≤ p → pages p ≡ None
