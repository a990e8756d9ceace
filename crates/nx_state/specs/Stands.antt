-- Which state the pages of a store stand for.
use Rattle.std.specs.Prelude.{◌≡◌, ◌⊎◌, ℕ, List, [], ◌∷◌, ◌++◌, map, Option, None, Some, IsSome, All, Contains}
use Rattle.std.specs.FinMap.{entries}
use Rattle.nx_host.specs.Disk.{Image}
use Rattle.nx_records.specs.Words.{Pages, replay, Held, Holds}
use Rattle.nx_cuts.specs.Cut.{CutTree}
use Rattle.nx_layouts.specs.Layout.{RecordPlace, Layout, Stock, places_of, contents_of, whole, AreOnce, ArePlacedOnce, IsLaidOutAs}
use Rattle.nx_hold.specs.declared.entry.DocEntry.{DocEntry}
use Rattle.nx_hold.specs.Changes.{place_of}
use Rattle.nx_hold.specs.Pieces.{record_at, NamesList, IsTidy, PieceMap, held_by}
use Rattle.nx_catalog.specs.Catalog.{Contents, IsCatalog}
use Rattle.nx_state.specs.State.{State, document_size}

-- A document of a store: its name, its entry in the catalog, its tree with the intervals drawn in, and the layout of what is below its root in records.
pub record StoredDocument : Type 0 where
  pub name : List ℕ
  pub entry : DocEntry
  pub document : CutTree
  pub layout : Layout

-- the places of its records
abbrev pub record_places : StoredDocument → List RecordPlace
record_places s = places_of (whole (place_of s.entry.root) s.document.node s.layout)

-- the places of the records of all of these
abbrev pub all_places : List StoredDocument → List RecordPlace
all_places [] = []
all_places (s ∷ stored) = record_places s ++ all_places stored

-- the first pages of the lists that hold contents of all of these
abbrev pub all_contents : List StoredDocument → List ℕ
all_contents [] = []
all_contents (s ∷ stored) = contents_of s.layout ++ all_contents stored

-- The records hold the document in its layout, and its entry has its number of nodes.
pub record IsStoredIn (stock : Stock) (s : StoredDocument) : Type 0 where
  pub laid : IsLaidOutAs stock (place_of s.entry.root) s.document s.layout
  pub counted : s.entry.nodes ≡ document_size s.document

-- Records and lists are those of these documents: each document is laid out in records and far contents of its own, and there is no other record, and no list but
-- those that a record names for proxies, and those of these contents.
pub record HoldsDocuments (held : Held) (stored : List StoredDocument) : Type 0 where
  pub tidy : IsTidy held
  pub pieces : PieceMap held
  pub each : All (IsStoredIn (held_by pieces)) stored
  pub once : ArePlacedOnce (all_places stored)
  pub contents_once : AreOnce (all_contents stored)
  pub no_others : (place : RecordPlace) → IsSome (record_at held place) → Contains (all_places stored) place
  pub no_other_lists : (chain : ℕ) → IsSome (held.lists chain) → ((place : RecordPlace) × (count : ℕ) × NamesList held place count chain) ⊎ Contains (all_contents stored) chain

-- What sound pages hold is this state: its documents, and a catalog of their names, their entries and the rules.
pub record HoldsState (held : Held) (state : State) : Type 0 where
  pub settings : held.settings ≡ state.settings
  pub stored : List StoredDocument
  pub holds : HoldsDocuments held stored
  pub contents : Contents
  pub catalog : IsCatalog held.catalog.bytes contents
  pub names : entries contents.documents ≡ map (λ s. (s.name, s.entry)) stored
  pub documents : entries state.documents ≡ map (λ s. (s.name, s.document)) stored
  pub rules : contents.rules ≡ state.rules

-- The pages are sound, and what they hold is this state.
abbrev pub Stands : Pages → State → Type 0
Stands pages state = (held : Held) × Holds pages held × HoldsState held state

-- The image is that of a store in this state, or, without a state, of none.
abbrev pub Recovers : Image → Option State → Type 0
Recovers image None = (p : ℕ) → replay image p ≡ None
Recovers image (Some state) = Stands (replay image) state
