-- The laws of states.
use Rattle.std.specs.Prelude.{◌≡◌, ◌⊎◌, ℕ, ◌+◌, ◌*◌, ◌≤◌, List, [], ◌∷◌, ◌++◌, length, map, Option, All, Contains}
use Rattle.std.specs.List.{sum}
use Rattle.nx_host.specs.Disk.{Image}
use Rattle.nx_records.specs.Words.{Pages, Settings, Held, Holds, chain_count}
use Rattle.nx_records.specs.Changes.{SetsCatalog, nothing_held}
use Rattle.nx_cuts.specs.Cut.{tree_of}
use Rattle.nx_layouts.specs.Layout.{AreOnce, ArePlacedOnce, contents_of}
use Rattle.nx_hold.specs.Pieces.{IsTidy, PieceMap, held_by}
use Rattle.nx_hold.specs.Contents.{AreOwn, tree_pages}
use Rattle.nx_hold.specs.Documents.{MovesRecords, AddsRecords}
use Rattle.nx_state.specs.State.{State, new_state, document_size}
use Rattle.nx_state.specs.Stands.{StoredDocument, IsStoredIn, HoldsDocuments, HoldsState, Recovers, record_places, all_places, all_contents}

-- An image recovers to one state at most.
abbrev pub OneState : Type 0
OneState = (image : Image) (state other : Option State) → Recovers image state → Recovers image other → state ≡ other

-- What a new store holds is the new state.
abbrev pub NewIsHeld : Type 0
NewIsHeld = (settings : Settings) → HoldsState (nothing_held settings) (new_state settings)

-- Of the lists that hold contents these went and those came: a list is among the later ones where it was among the earlier ones and didn't go, or where it came.
pub record ContentsChange (was now lost brought : List ℕ) : Type 0 where
  pub from : (first : ℕ) → Contains now first → Contains was first ⊎ Contains brought first
  pub went : (first : ℕ) → Contains was first → Contains now first ⊎ Contains lost first
  pub came : (first : ℕ) → Contains brought first → Contains now first

-- Where the records of some documents became those of others, whose contents are the same but for those that went and came, the records are those of the documents
-- beside them and of these. So documents come, go and change.
abbrev pub DocumentsChange : Type 0
DocumentsChange = (lost brought : List ℕ) (needs : ℕ) (was now : Held) (before old new after : List StoredDocument) → HoldsDocuments was (before ++ (old ++ after))
    → MovesRecords (all_places old) (all_places new) lost brought needs was now → IsTidy now → ArePlacedOnce (all_places new) → AreOnce (all_contents new)
    → ContentsChange (all_contents old) (all_contents new) lost brought → ((pieces : PieceMap now) → All (IsStoredIn (held_by pieces)) new) → HoldsDocuments now (before ++ (new ++ after))

-- Where records of one more document come, with its contents, the records are those of the documents and of this one.
abbrev pub DocumentComes : Type 0
DocumentComes = (needs : ℕ) (was now : Held) (before after : List StoredDocument) (s : StoredDocument) → HoldsDocuments was (before ++ after)
    → AddsRecords (record_places s) (contents_of s.layout) needs was now → IsTidy now → AreOnce (contents_of s.layout) → ((pieces : PieceMap now) → IsStoredIn (held_by pieces) s)
    → HoldsDocuments now (before ++ s ∷ after)

-- Where all records and contents of a document went, the records are those of the others.
abbrev pub DocumentGoes : Type 0
DocumentGoes = (lost : List ℕ) (needs : ℕ) (was now : Held) (before after : List StoredDocument) (s : StoredDocument) → HoldsDocuments was (before ++ s ∷ after)
    → MovesRecords (record_places s) [] lost [] needs was now → ((first : ℕ) → Contains (contents_of s.layout) first → Contains lost first) → IsTidy now → HoldsDocuments now (before ++ after)

-- A document's contents are named by its own records alone, each once, and hold no proxies: so each of them may be changed or taken away.
abbrev pub DocumentsOwnContents : Type 0
DocumentsOwnContents = (held : Held) (before after : List StoredDocument) (s : StoredDocument) → HoldsDocuments held (before ++ s ∷ after) → AreOwn held (record_places s) (contents_of s.layout)

-- Another catalog changes no document.
abbrev pub CatalogComes : Type 0
CatalogComes = (bytes : List ℕ) (was now : Held) (stored : List StoredDocument) → HoldsDocuments was stored → SetsCatalog bytes was now → HoldsDocuments now stored

-- How many pages the records of documents leave free: at least all but the header, one for each record, the chain pages of their proxies and of their far contents, and
-- those of the catalog. There are no more records than nodes, at most one chain page of proxies for each 254 records, no more of contents than the long ones need, and at
-- least two nodes for each document.
pub record LeavesFree (held : Held) (stored : List StoredDocument) : Type 0 where
  pub records : ℕ
  pub chains : ℕ
  pub contents : ℕ
  pub few_records : records ≤ sum (map (λ s. document_size s.document) stored)
  pub few_chains : 254 * chains ≤ records
  pub few_contents : contents ≤ sum (map (λ s. tree_pages (tree_of s.document)) stored)
  pub few_documents : 2 * length stored ≤ sum (map (λ s. document_size s.document) stored)
  pub free : (held.settings).limit ≤ held.free + (1 + records + chains + contents + chain_count (length held.catalog.bytes))

abbrev pub DocumentsLeaveFree : Type 0
DocumentsLeaveFree = (pages : Pages) (held : Held) (stored : List StoredDocument) → Holds pages held → HoldsDocuments held stored → LeavesFree held stored
