-- What is looked up in a store of one document, by its name.
use Rattle.std.specs.Prelude.{◌≡◌, ◌⊎◌, ℕ, ◌+◌, ◌≤◌, List, Option, None, IsSome}
use Rattle.std.specs.FinMap.{get}
use Rattle.nx_host.specs.declared.disk.Disk.{Ghosts}
use Rattle.nx_records.specs.Words.{Held}
use Rattle.nx_state.specs.State.{State}
use Rattle.nx_reach.specs.declared.step.Step.{Step}
use Rattle.nx_store.specs.declared.store.Store.{Store}
use Rattle.nx_store.specs.Naming.{FindsIn, NamesReads, FindReads}
use Rattle.nx_filters.specs.declared.status.Status.{Status}
use Rattle.nx_front.specs.declared.gathered.Gathered.{Gathered}
use Rattle.nx_front.specs.Conversation.{StopsShort}
use Rattle.nx_front.specs.Gathered.{labels_in, KnowsLabels, KeepsNames, ReadsOnce, ReadsSearch}

-- The labels of the document of a name were gathered, or there is none.
pub record GathersDocument {D : Type 0} (d : Ghosts D) (held : Held) (state : State) (name : List ℕ) (store : Store) (old new : Gathered) (before after : D) : Type 0 where
  pub knows : KnowsLabels d held state store new after
  pub keeps : KeepsNames old new
  pub there : labels_in new name ≡ None → get state.documents name ≡ None
  pub reads : ReadsOnce d held state name before after

abbrev pub GathersOf : {D : Type 0} → Ghosts D → List ℕ → Store → Store → Gathered → Gathered → D → D → Type 0
GathersOf d name store store' old new before after =
    (held : Held) (state : State) → KnowsLabels d held state store old before → GathersDocument d held state name store' old new before after

abbrev pub StopsGathering : {D : Type 0} → Ghosts D → List ℕ → Status → Store → Gathered → D → D → Type 0
StopsGathering d name status store gathered before after =
    (held : Held) (state : State) → KnowsLabels d held state store gathered before → StopsShort status × ReadsOnce d held state name before after

-- nothing of the document of a name was gathered, and so there is none
abbrev pub IsAbsent : State → Gathered → List ℕ → Type 0
IsAbsent state gathered name = labels_in gathered name ≡ None → get state.documents name ≡ None

-- What steps reach in it was looked for.
pub record Searches {D : Type 0} (d : Ghosts D) (held : Held) (state : State) (name : List ℕ) (steps : List Step) (paths : Option (List (List ℕ))) (store : Store) (gathered : Gathered) (before after : D) : Type 0 where
  pub knows : KnowsLabels d held state store gathered after
  pub finds : FindsIn state name steps paths
  pub reads : ReadsSearch d held state name steps before after

abbrev pub SearchesOf : {D : Type 0} → Ghosts D → List ℕ → List Step → Option (List (List ℕ)) → Store → Store → Gathered → D → D → Type 0
SearchesOf d name steps paths store store' gathered before after =
    (held : Held) (state : State) → KnowsLabels d held state store gathered before → IsAbsent state gathered name → Searches d held state name steps paths store' gathered before after

abbrev pub StopsSearching : {D : Type 0} → Ghosts D → List ℕ → List Step → Status → Store → Gathered → D → D → Type 0
StopsSearching d name steps status store gathered before after =
    (held : Held) (state : State) → KnowsLabels d held state store gathered before → IsAbsent state gathered name → StopsShort status × ReadsSearch d held state name steps before after

-- ... for the labels, where they weren't gathered before, and for what is looked for
pub record ReadsBoth {D : Type 0} (d : Ghosts D) (held : Held) (state : State) (name : List ℕ) (steps : List Step) (gathered : Gathered) (before after : D) : Type 0 where
  pub own : ℕ
  pub once : (own ≡ 0) ⊎ ((labels_in gathered name ≡ None) × NamesReads held name (get state.documents name) own)
  pub rest : ℕ
  pub sought : (rest ≡ 0) ⊎ FindReads held name steps (get state.documents name) rest
  pub few : d.reads after ≤ d.reads before + (own + rest)

-- The labels were gathered where that wasn't done, and the steps' paths looked for.
pub record ReachesNodes {D : Type 0} (d : Ghosts D) (held : Held) (state : State) (name : List ℕ) (steps : List Step) (paths : Option (List (List ℕ))) (store : Store) (old new : Gathered) (before after : D) : Type 0 where
  pub knows : KnowsLabels d held state store new after
  pub keeps : KeepsNames old new
  pub finds : FindsIn state name steps paths
  pub own : ℕ
  pub once : (own ≡ 0) ⊎ ((labels_in old name ≡ None) × IsSome (labels_in new name) × NamesReads held name (get state.documents name) own)
  pub rest : ℕ
  pub sought : FindReads held name steps (get state.documents name) rest
  pub few : d.reads after ≤ d.reads before + (own + rest)

abbrev pub ReachesOf : {D : Type 0} → Ghosts D → List ℕ → List Step → Option (List (List ℕ)) → Store → Store → Gathered → Gathered → D → D → Type 0
ReachesOf d name steps paths store store' old new before after =
    (held : Held) (state : State) → KnowsLabels d held state store old before → ReachesNodes d held state name steps paths store' old new before after

abbrev pub StopsReaching : {D : Type 0} → Ghosts D → List ℕ → List Step → Status → Store → Gathered → D → D → Type 0
StopsReaching d name steps status store gathered before after =
    (held : Held) (state : State) → KnowsLabels d held state store gathered before → StopsShort status × ReadsBoth d held state name steps gathered before after
