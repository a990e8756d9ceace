-- Nodes by name in the documents of a store.
use Rattle.std.specs.Prelude.{◌≡◌, ◌≤◌, ◌+◌, ℕ, Bool, List, Option, None, Some, IsSome}
use Rattle.std.specs.FinMap.{get}
use Rattle.nx_host.specs.declared.disk.Disk.{Ghosts}
use Rattle.nx_records.specs.Words.{Held}
use Rattle.nx_cuts.specs.Cut.{CutTree, tree_of}
use Rattle.nx_layouts.specs.Layout.{RecordPlace, Layout, IsLaidOutAs, whole, places_of}
use Rattle.nx_hold.specs.declared.entry.DocEntry.{DocEntry}
use Rattle.nx_hold.specs.Changes.{place_of}
use Rattle.nx_hold.specs.Pieces.{PieceMap, held_by}
use Rattle.nx_nav.specs.Along.{TakePages}
use Rattle.nx_state.specs.State.{State}
use Rattle.nx_reach.specs.declared.step.Step.{Step}
use Rattle.nx_reach.specs.Reach.{Found}
use Rattle.nx_find.specs.declared.names.Names.{Names}
use Rattle.nx_find.specs.declared.error.FindError.{FindError}
use Rattle.nx_find.specs.declared.error.FindError.TheVariants as below
use Rattle.nx_find.specs.Over.{IsMapOf, holds_of, last_label, records_for}
use Rattle.nx_store.specs.Reads.{IsEntryOf}
use Rattle.nx_store.specs.Store.{IsAt, EndsNow, NotApplied}
use Rattle.nx_store.specs.declared.error.EngineError.{EngineError}
use Rattle.nx_store.specs.declared.error.EngineError.TheVariants as error
use Rattle.nx_store.specs.declared.store.Store.{Store}

-- of each layout in which what is held has the document of this name
abbrev pub OfStored : Held → State → List ℕ → (DocEntry → CutTree → Layout → Type 0) → Type 0
OfStored held state name P =
    (entry : DocEntry) (document : CutTree) → IsEntryOf held name entry → get state.documents name ≡ Some document →
    (pieces : PieceMap held) (layout : Layout) → IsLaidOutAs (held_by pieces) (place_of entry.root) document layout → P entry document layout

-- where there is a document of this name, these names are the map of its labels
abbrev pub MapsStored : Held → State → List ℕ → Names → Type 0
MapsStored held state name names = OfStored held state name (λ entry document layout. IsMapOf (holds_of names) (place_of entry.root) document layout)

-- there is one, and these names are the map of its labels; or there is none
abbrev pub AreNamesOf : Held → State → List ℕ → Option Names → Type 0
AreNamesOf held state name None = get state.documents name ≡ None
AreNamesOf held state name (Some names) = IsSome (get state.documents name) × MapsStored held state name names

-- these are the paths that the steps reach in the document of this name, or there is none
abbrev pub FindsIn : State → List ℕ → List Step → Option (List (List ℕ)) → Type 0
FindsIn state name steps None = get state.documents name ≡ None
FindsIn state name steps (Some paths) = (document : CutTree) × (get state.documents name ≡ Some document) × Found (tree_of document) steps paths

-- What is held has the document under the name, with this entry, in this layout of what is below its root.
pub record IsKeptAs (held : Held) (name : List ℕ) (document : CutTree) (entry : DocEntry) (layout : Layout) : Type 0 where
  pub of_it : IsEntryOf held name entry
  pub pieces : PieceMap held
  pub laid : IsLaidOutAs (held_by pieces) (place_of entry.root) document layout

-- So many pages are read for the labels of the document of this name, where there is one: those of each of its records, once.
abbrev pub NamesReads : Held → List ℕ → Option CutTree → ℕ → Type 0
NamesReads held name None pages = pages ≡ 0
NamesReads held name (Some document) pages =
    (entry : DocEntry) × (layout : Layout) × IsKeptAs held name document entry layout × TakePages held (places_of (whole (place_of entry.root) document.node layout)) pages

-- ... and so many for the paths that steps reach in it: those of the root's record, and of those below it that hold the last step's label.
abbrev pub FindReads : Held → List ℕ → List Step → Option CutTree → ℕ → Type 0
FindReads held name steps None pages = pages ≡ 0
FindReads held name steps (Some document) pages =
    (entry : DocEntry) × (layout : Layout) × (holds : RecordPlace → List ℕ → Bool) × IsKeptAs held name document entry layout × IsMapOf holds (place_of entry.root) document layout
    × TakePages held (records_for holds (last_label steps) (place_of entry.root) layout) pages

-- No more pages are read than that, from each state that the store was at.
abbrev pub ReadsNames : {D : Type 0} → Ghosts D → Store → List ℕ → D → D → Type 0
ReadsNames d store name before after =
    (state : State) (at : IsAt d store before state) → (pages : ℕ) × (d.reads after ≤ d.reads before + pages) × NamesReads at.held name (get state.documents name) pages

-- ... where these names are the map of the document
abbrev pub ReadsFinding : {D : Type 0} → Ghosts D → Store → Names → List ℕ → List Step → D → D → Type 0
ReadsFinding d store names name steps before after =
    (state : State) (at : IsAt d store before state) → MapsStored at.held state name names →
    (pages : ℕ) × (d.reads after ≤ d.reads before + pages) × FindReads at.held name steps (get state.documents name) pages

-- why a call of the store gives up whose search gave up so
abbrev pub told_find : FindError → EngineError
told_find below.Disk = error.Disk
told_find (below.Damaged page) = error.Damaged page
told_find below.Ended = error.Ended
told_find below.Memory = error.Memory

-- Why nothing was found by these names: as for a command, but that `Damaged` comes also where they aren't the map of the document.
abbrev pub NotSearched : {D : Type 0} → Ghosts D → EngineError → List ℕ → Names → Store → Store → D → D → Type 0
NotSearched d (error.Damaged page) name names old new before after = EndsNow old new × ((state : State) (at : IsAt d old before state) → MapsStored at.held state name names → ⊥)
NotSearched d error.Disk name names old new before after = NotApplied d error.Disk old new before after
NotSearched d error.Ended name names old new before after = NotApplied d error.Ended old new before after
NotSearched d error.Memory name names old new before after = NotApplied d error.Memory old new before after
NotSearched d error.Exists name names old new before after = ⊥
NotSearched d error.NotAStore name names old new before after = ⊥
NotSearched d error.Write name names old new before after = ⊥
