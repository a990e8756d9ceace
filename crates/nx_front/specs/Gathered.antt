-- The labels of documents that were gathered so far, and what a store that was asked so is at.
use Rattle.std.specs.Prelude.{◌≡◌, ℕ, ◌+◌, ◌≤◌, List, Option, Some, IsSome}
use Rattle.std.specs.FinMap.{get}
use Rattle.nx_host.specs.declared.disk.Disk.{Ghosts}
use Rattle.nx_records.specs.Words.{Held}
use Rattle.nx_catalog.specs.NameMap.{map_in}
use Rattle.nx_state.specs.State.{State}
use Rattle.nx_reach.specs.declared.step.Step.{Step}
use Rattle.nx_find.specs.declared.names.Names.{Names}
use Rattle.nx_store.specs.declared.store.Store.{Store}
use Rattle.nx_store.specs.Store.{IsAt}
use Rattle.nx_store.specs.Naming.{AreNamesOf, NamesReads, FindReads}
use Rattle.nx_front.specs.declared.gathered.Gathered.{Gathered}

-- what was gathered of the document of a name
abbrev pub labels_in : Gathered → List ℕ → Option Names
labels_in gathered name = get (map_in gathered.names) name

-- The store is at the state, of what is held, and what was gathered are names of its documents.
pub record KnowsLabels {D : Type 0} (d : Ghosts D) (held : Held) (state : State) (store : Store) (gathered : Gathered) (disk : D) : Type 0 where
  pub at : IsAt d store disk state
  pub same : at.held ≡ held
  pub names : (name : List ℕ) (names : Names) → labels_in gathered name ≡ Some names → AreNamesOf held state name (Some names)

-- What was gathered before is still there.
abbrev pub KeepsNames : Gathered → Gathered → Type 0
KeepsNames old new = (name : List ℕ) → IsSome (labels_in old name) → IsSome (labels_in new name)

-- For the labels of the document of a name so many pages are read, at most, where there is one that wasn't gathered before; else none.
abbrev pub ReadsOnce : {D : Type 0} → Ghosts D → Held → State → List ℕ → D → D → Type 0
ReadsOnce d held state name before after = (pages : ℕ) × (d.reads after ≤ d.reads before + pages) × NamesReads held name (get state.documents name) pages

-- ... and for what steps reach in it
abbrev pub ReadsSearch : {D : Type 0} → Ghosts D → Held → State → List ℕ → List Step → D → D → Type 0
ReadsSearch d held state name steps before after = (pages : ℕ) × (d.reads after ≤ d.reads before + pages) × FindReads held name steps (get state.documents name) pages
