-- Why an edit of a document is refused, and what it leaves.
use Rattle.std.specs.Prelude.{◌≡◌, ◌<◌, ℕ, ◌+◌, Bool, true, false, List, Option, None, Some, option_and_then}
use Rattle.nx_host.specs.Disk.{Rose}
use Rattle.nx_host.specs.declared.disk.Disk.{Ghosts}
use Rattle.nx_tree.specs.declared.error.TreeError.{TreeError}
use Rattle.nx_tree.specs.declared.error.TreeError.TheVariants as tree
use Rattle.nx_tree.specs.Forest.{OrderedTree, nodes}
use Rattle.nx_tree.specs.Edit.{delete_refusal}
use Rattle.nx_records.specs.Records.{has_free, KeepsSaved}
use Rattle.nx_records.specs.Refusals.{EndNow, RunsOn, HadEnded}
use Rattle.nx_records.specs.declared.records.Records.{Records}
use Rattle.nx_records.specs.declared.error.StoreError.{StoreError}
use Rattle.nx_records.specs.declared.error.StoreError.TheVariants as store
use Rattle.nx_cuts.specs.Cut.{CutTree, tree_of}
use Rattle.nx_layouts.specs.Layout.{LaidNode, Layout}
use Rattle.nx_hold.specs.declared.entry.DocEntry.{DocEntry}
use Rattle.nx_state.specs.State.{document_size}
use Rattle.nx_nav.specs.declared.error.NavError.{NavError}
use Rattle.nx_nav.specs.declared.error.NavError.TheVariants as nav
use Rattle.nx_edit.specs.declared.error.EditError.{EditError}
use Rattle.nx_edit.specs.declared.error.EditError.TheVariants as error
use Rattle.nx_edit.specs.Editing.{edited_needs}
use Rattle.nx_edit.specs.Removing.{OfEntry, HasNone}

-- a refusal of an edit of a tree; want of memory is none
abbrev pub refused_by : TreeError → Option EditError
refused_by tree.NoNode = Some error.NoNode
refused_by tree.BadPlace = Some error.BadPlace
refused_by tree.Twice = Some error.Twice
refused_by tree.NoContent = Some error.NoContent
refused_by tree.TooDeep = Some error.TooDeep
refused_by tree.TooMany = Some error.TooMany
refused_by tree.Memory = None

-- why the tree at the path of a document can't be taken away, the first reason that applies
abbrev pub deletion_fault : List ℕ → OrderedTree → Option EditError
deletion_fault path t = option_and_then refused_by (delete_refusal path t)

-- whether `delete` refuses a path for this reason
abbrev pub is_of_path : EditError → Bool
is_of_path error.NoNode = true
is_of_path error.BadPlace = true
is_of_path _ = false

-- how many pages an edit may need of a document in its layout
abbrev pub edit_needs : (change : OrderedTree → OrderedTree) (kept : Layout → List LaidNode) (pages : ℕ) → CutTree → Layout → ℕ
edit_needs change kept pages document layout = edited_needs kept pages (document_size document) (1 + nodes (change (tree_of document)).below) layout

-- No page is free now; of a document of the entry nothing else forbids the edit, and fewer pages were free than it may need.
pub record FindsFew {D : Type 0} (d : Ghosts D) (fault : OrderedTree → Option EditError) (needs : CutTree → Layout → ℕ) (entry : DocEntry) (old new : Records) (before after : D) : Type 0 where
  pub runs : RunsOn old new
  pub keeps : KeepsSaved d old new before after
  pub none_free : has_free new ≡ false
  pub few : OfEntry d old before entry (λ now document layout. (fault (tree_of document) ≡ None) × (now.free < needs document layout))

-- what the last commit holds is left
abbrev pub LeavesLastCommit : {D : Type 0} → Ghosts D → Records → Records → D → D → Type 0
LeavesLastCommit d old new before after = RunsOn old new × KeepsSaved d old new before after

-- each document of the entry has this fault
abbrev pub IsAtFault : {D : Type 0} → Ghosts D → (OrderedTree → Option EditError) → DocEntry → EditError → Records → D → Type 0
IsAtFault d fault entry e records disk = OfEntry d records disk entry (λ now document layout. fault (tree_of document) ≡ Some e)

-- Why an edit wasn't made, and what it leaves: a refusal of the path, one of those that can come, comes only where this is the document's fault.
abbrev pub NotEdited : {D : Type 0} → Ghosts D → (can : EditError → Bool) → (fault : OrderedTree → Option EditError) → (needs : CutTree → Layout → ℕ) → DocEntry → EditError → Records → Records → D → D → Type 0
NotEdited d can fault needs entry error.Disk old new before after = Rose (d.faults before) (d.faults after) × EndNow old new
NotEdited d can fault needs entry error.Full old new before after = FindsFew d fault needs entry old new before after
NotEdited d can fault needs entry (error.Damaged page) old new before after = EndNow old new × HasNone d old before entry
NotEdited d can fault needs entry error.Ended old new before after = HadEnded old new before after
NotEdited d can fault needs entry error.Memory old new before after = LeavesLastCommit d old new before after
NotEdited d can fault needs entry e old new before after = (can e ≡ true) × LeavesLastCommit d old new before after × IsAtFault d fault entry e old before

-- the refusal of an edit whose call on one record was refused so; none speaks of a whole store
abbrev pub edit_error : StoreError → Option EditError
edit_error store.Disk = Some error.Disk
edit_error store.Full = Some error.Full
edit_error (store.Damaged page) = Some (error.Damaged page)
edit_error store.Ended = Some error.Ended
edit_error store.Memory = Some error.Memory
edit_error store.Exists = None
edit_error store.NotAStore = None

-- ... and of one whose look at the document was; it gives no output
abbrev pub seen_error : NavError → Option EditError
seen_error nav.NoNode = Some error.NoNode
seen_error nav.Disk = Some error.Disk
seen_error nav.Write = None
seen_error (nav.Damaged page) = Some (error.Damaged page)
seen_error nav.Ended = Some error.Ended
seen_error nav.Memory = Some error.Memory
