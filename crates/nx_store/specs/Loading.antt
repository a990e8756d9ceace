-- What a load makes of the store before its commit.
use Rattle.std.specs.Prelude.{◌≡◌, ℕ, ◌+◌, List, None}
use Rattle.std.specs.FinMap.{get}
use Rattle.nx_host.specs.Disk.{Rose}
use Rattle.nx_host.specs.declared.disk.Disk.{Ghosts}
use Rattle.nx_tree.specs.Forest.{OrderedTree, nodes}
use Rattle.nx_parts.specs.declared.interval.Interval.{Interval}
use Rattle.nx_partition.specs.Planning.{IsLeanInOrder}
use Rattle.nx_records.specs.Words.{Held}
use Rattle.nx_records.specs.Records.{settings_of}
use Rattle.nx_records.specs.declared.error.StoreError.{StoreError}
use Rattle.nx_records.specs.declared.error.StoreError.TheVariants as error
use Rattle.nx_cuts.specs.Cut.{CutTree, tree_of, parts_of}
use Rattle.nx_hold.specs.Contents.{tree_pages}
use Rattle.nx_state.specs.State.{State, all_nodes, all_pages}
use Rattle.nx_steps.specs.Answers.{with_document, MayBeFull}
use Rattle.nx_store.specs.Store.{IsNow, HoldsNoState, EndsNow}
use Rattle.nx_store.specs.Changing.{IsStoreLeft}
use Rattle.nx_store.specs.declared.store.Store.{Store}

-- no document has the name
abbrev pub IsNew : Store → List ℕ → Type 0
IsNew store name = get (store.catalog).documents name ≡ None

-- A lean optimal partitioning of the tree for the parts of this store, in document order.
abbrev pub IsChosen : Store → OrderedTree → List Interval → Type 0
IsChosen store tree parts = IsLeanInOrder (settings_of store.records).k tree parts

-- The records and the catalog have the document besides, which is cut so. The last commit holds what it held.
pub record IsKept {D : Type 0} (d : Ghosts D) (saved : Held) (store : Store) (disk : D) (state : State) (name : List ℕ) (tree : OrderedTree) (parts : List Interval) : Type 0 where
  pub document : CutTree
  pub tree_is : tree_of document ≡ tree
  pub parts_are : parts_of document ≡ parts
  pub now : IsNow d store disk saved (with_document state name document)

-- there may not be room for one document more with so many nodes, and with contents as long as its
abbrev pub MayNotFit : State → OrderedTree → Type 0
MayNotFit state tree = MayBeFull state (all_nodes state + (1 + nodes tree.below)) (all_pages state + tree_pages tree)

-- ... whatever state the store was at
abbrev pub HasNoRoomForDocument : {D : Type 0} → Ghosts D → Store → D → OrderedTree → Type 0
HasNoRoomForDocument d store disk tree = (saved : Held) (state : State) → IsNow d store disk saved state → MayNotFit state tree

-- Why a document wasn't kept.
abbrev pub NotKept : {D : Type 0} → Ghosts D → OrderedTree → StoreError → Store → Store → D → D → Type 0
NotKept d tree error.Disk old new before after = Rose (d.faults before) (d.faults after) × EndsNow old new
NotKept d tree (error.Damaged page) old new before after = EndsNow old new × HoldsNoState d old before
NotKept d tree error.Full old new before after = IsStoreLeft d old new before after × HasNoRoomForDocument d old before tree
NotKept d tree error.Memory old new before after = IsStoreLeft d old new before after
NotKept d tree error.Ended old new before after = ⊥
NotKept d tree error.Exists old new before after = ⊥
NotKept d tree error.NotAStore old new before after = ⊥
