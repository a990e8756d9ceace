-- What is left of rows of intervals and of a document that are taken away, and why one wasn't.
use Rattle.std.specs.Prelude.{◌≡◌, ℕ, ◌+◌, ◌≤◌, List, [], ◌∷◌, ◌++◌, map, Contains, IsPermutation}
use Rattle.std.specs.Option.{option_to_list}
use Rattle.nx_host.specs.Disk.{Rose}
use Rattle.nx_host.specs.declared.disk.Disk.{Ghosts}
use Rattle.nx_records.specs.Words.{Held}
use Rattle.nx_records.specs.Records.{KeepsSaved, StandsFor}
use Rattle.nx_records.specs.Refusals.{EndNow, RunsOn, HadEnded}
use Rattle.nx_records.specs.declared.records.Records.{Records}
use Rattle.nx_records.specs.declared.error.StoreError.{StoreError}
use Rattle.nx_records.specs.declared.error.StoreError.TheVariants as error
use Rattle.nx_tree.specs.Forest.{nodes}
use Rattle.nx_piece.specs.declared.piece.Far.{Far}
use Rattle.nx_piece.specs.declared.piece.Proxy.{Proxy}
use Rattle.nx_cuts.specs.Cut.{CutTree, Bare, Grown, Kept}
use Rattle.nx_layouts.specs.Layout.{RecordPlace, LaidNode, Layout, AreHeld, AreOnce, ArePlacedOnce, in_record, laid_forest, places_of, proxies_of, nodes_in, contents_of, whole, IsLaidOutAs}
use Rattle.nx_hold.specs.declared.entry.DocEntry.{DocEntry}
use Rattle.nx_hold.specs.Pieces.{IsTidy, HasContent, IsNamedNowhere, PieceMap, held_by}
use Rattle.nx_hold.specs.Contents.{AreOwn}
use Rattle.nx_hold.specs.Changes.{place_of}
use Rattle.nx_hold.specs.Documents.{MovesRecords, HasDocument}
use Rattle.nx_state.specs.State.{document_size}
use Rattle.nx_edit.specs.declared.error.EditError.{EditError}
use Rattle.nx_edit.specs.declared.error.EditError.TheVariants as told

-- the places of the records of a document
abbrev pub document_places : DocEntry → CutTree → Layout → List RecordPlace
document_places entry document layout = places_of (whole (place_of entry.root) document.node layout)

-- how many nodes of a row stand in intervals
abbrev pub kept_nodes : Layout → ℕ
kept_nodes Bare = 0
kept_nodes (Grown node below beside) = kept_nodes below + kept_nodes beside
kept_nodes (Kept place members beside) = nodes (laid_forest members) + kept_nodes beside

-- the far contents of nodes, as their items name them
abbrev pub fars_of : List LaidNode → List Far
fars_of [] = []
fars_of (n ∷ ns) = option_to_list (in_record n).far ++ fars_of ns

-- ... and of those of a row that stand in intervals
abbrev pub kept_fars : Layout → List Far
kept_fars Bare = []
kept_fars (Grown node below beside) = kept_fars below ++ kept_fars beside
kept_fars (Kept place members beside) = fars_of (nodes_in members) ++ kept_fars beside

-- The proxies are those of a row whose intervals the records hold, each record once, with at most so many nodes.
pub record IsRow (now : Held) (pieces : PieceMap now) (proxies : List Proxy) (limit : ℕ) (row : Layout) : Type 0 where
  pub proxies_are : proxies ≡ proxies_of row
  pub held : AreHeld (held_by pieces) row
  pub once : ArePlacedOnce (places_of row)
  pub few : kept_nodes row ≤ limit

-- The intervals of such a row went, with all below them, so many nodes in them and these far contents, whose lists stay; no page fewer is free.
abbrev pub RemovesRow : (proxies : List Proxy) (limit gone : ℕ) (fars : List Far) (was now : Held) → Type 0
RemovesRow proxies limit gone fars was now =
    (pieces : PieceMap was) (row : Layout) → IsRow was pieces proxies limit row → MovesRecords (places_of row) [] [] [] 0 was now × (gone ≡ kept_nodes row) × IsPermutation fars (kept_fars row)

-- of each such row, where the lists that records name are in order
abbrev pub OfRow : {D : Type 0} → Ghosts D → Records → D → List Proxy → (limit : ℕ) → (Held → Layout → Type 0) → Type 0
OfRow d records disk proxies limit P =
    (saved now : Held) (pieces : PieceMap now) (row : Layout) → StandsFor d records disk saved now → IsTidy now → IsRow now pieces proxies limit row → P now row

-- Why a row wasn't taken away, and what that leaves.
abbrev pub NotRemovedRow : {D : Type 0} → Ghosts D → List Proxy → (limit : ℕ) → StoreError → Records → Records → D → D → Type 0
NotRemovedRow d proxies limit error.Disk old new before after = Rose (d.faults before) (d.faults after) × EndNow old new
NotRemovedRow d proxies limit (error.Damaged page) old new before after = EndNow old new × OfRow d old before proxies limit (λ now row. ⊥)
NotRemovedRow d proxies limit error.Ended old new before after = ⊥
NotRemovedRow d proxies limit error.Memory old new before after = RunsOn old new × KeepsSaved d old new before after
NotRemovedRow d proxies limit error.Full old new before after = ⊥
NotRemovedRow d proxies limit error.Exists old new before after = ⊥
NotRemovedRow d proxies limit error.NotAStore old new before after = ⊥

-- Each of these lists is there, as long as the content that it held, no record names it, and none comes twice.
pub record AreUnnamed (held : Held) (fars : List Far) : Type 0 where
  pub there : (far : Far) → Contains fars far → HasContent held far
  pub nowhere : (far : Far) → Contains fars far → IsNamedNowhere held far.first
  pub once : AreOnce (map (λ far. far.first) fars)

-- Why such lists weren't taken away, and what that leaves.
abbrev pub NotFreed : {D : Type 0} → Ghosts D → List Far → StoreError → Records → Records → D → D → Type 0
NotFreed d fars error.Disk old new before after = Rose (d.faults before) (d.faults after) × EndNow old new
NotFreed d fars (error.Damaged page) old new before after = EndNow old new × ((saved now : Held) → StandsFor d old before saved now → IsTidy now → AreUnnamed now fars → ⊥)
NotFreed d fars error.Ended old new before after = ⊥
NotFreed d fars error.Memory old new before after = RunsOn old new × KeepsSaved d old new before after
NotFreed d fars error.Full old new before after = ⊥
NotFreed d fars error.Exists old new before after = ⊥
NotFreed d fars error.NotAStore old new before after = ⊥

-- of each document of the entry, which records hold from its root on, with the lists that records name in order, and which has its number of nodes; with all that is held, and the layout
abbrev pub OfEntry : {D : Type 0} → Ghosts D → Records → D → DocEntry → (Held → CutTree → Layout → Type 0) → Type 0
OfEntry d records disk entry P =
    (document : CutTree) (has : HasDocument d records disk (place_of entry.root) document) → IsTidy has.now → entry.nodes ≡ document_size document → P has.now document (has.laid).layout

-- of each whose contents no other record names, and each of them once
abbrev pub OfOwnEntry : {D : Type 0} → Ghosts D → Records → D → DocEntry → (Held → CutTree → Layout → Type 0) → Type 0
OfOwnEntry d records disk entry P = OfEntry d records disk entry (λ now document layout. AreOwn now (document_places entry document layout) (contents_of layout) → P now document layout)

-- there is none
abbrev pub HasNone : {D : Type 0} → Ghosts D → Records → D → DocEntry → Type 0
HasNone d records disk entry = OfOwnEntry d records disk entry (λ now document layout. ⊥)

-- Of each such document: of what the records stood for, they now stand for something that came of it so, with lists in order.
abbrev pub OwnComes : {D : Type 0} → Ghosts D → Records → Records → D → D → DocEntry → (CutTree → Layout → Held → Held → Type 0) → Type 0
OwnComes d old new before after entry Comes =
    (saved was : Held) (pieces : PieceMap was) (document : CutTree) (layout : Layout) → StandsFor d old before saved was → IsTidy was → IsLaidOutAs (held_by pieces) (place_of entry.root) document layout
    → entry.nodes ≡ document_size document → AreOwn was (document_places entry document layout) (contents_of layout) → (now : Held) × StandsFor d new after saved now × IsTidy now × Comes document layout was now

-- The document of an entry went, with all of its records, the lists of their proxies and of its contents; and no page fewer is free.
abbrev pub RemovesDocument : (entry : DocEntry) → CutTree → Layout → (was now : Held) → Type 0
RemovesDocument entry document layout was now = (lost : List ℕ) × IsPermutation lost (contents_of layout) × MovesRecords (document_places entry document layout) [] lost [] 0 was now

-- Why a document wasn't taken away, and what that leaves.
abbrev pub NotRemoved : {D : Type 0} → Ghosts D → DocEntry → EditError → Records → Records → D → D → Type 0
NotRemoved d entry told.Disk old new before after = Rose (d.faults before) (d.faults after) × EndNow old new
NotRemoved d entry (told.Damaged page) old new before after = EndNow old new × HasNone d old before entry
NotRemoved d entry told.Ended old new before after = HadEnded old new before after
NotRemoved d entry told.Memory old new before after = RunsOn old new × KeepsSaved d old new before after
NotRemoved d entry _ old new before after = ⊥
