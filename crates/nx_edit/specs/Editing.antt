-- What an edit of a document makes of the records that hold it.
use Rattle.std.specs.Prelude.{◌≡◌, ℕ, zero, suc, ◌+◌, ◌-◌, ◌*◌, Bool, nat_lt, if◌then◌else◌, List, [], ◌∷◌, ◌++◌, Contains, IsPermutation}
use Rattle.nx_host.specs.declared.disk.Disk.{Ghosts}
use Rattle.nx_records.specs.Words.{Held, Settings}
use Rattle.nx_records.specs.declared.records.Records.{Records}
use Rattle.nx_cuts.specs.Cut.{CutTree, Bare, Grown, Kept, width}
use Rattle.nx_layouts.specs.Layout.{RecordPlace, LaidNode, Layout, places_of, nodes_in, lists_of, contents_of, AreOnce, IsLaidOutAs}
use Rattle.nx_hold.specs.declared.entry.DocEntry.{DocEntry}
use Rattle.nx_hold.specs.Pieces.{record_at, NamesList, PieceMap, held_by}
use Rattle.nx_hold.specs.Contents.{near_pages}
use Rattle.nx_hold.specs.Changes.{place_of}
use Rattle.nx_hold.specs.Documents.{MovesRecords}
use Rattle.nx_state.specs.State.{document_size}
use Rattle.nx_edit.specs.Removing.{document_places, OwnComes}

-- The places of the records, among those of trees beside each other, that hold no node on the way along a path. Those of what is below its end are among them only where that stays.
abbrev pub places_off : (stays : Bool) → List ℕ → Layout → List RecordPlace
places_off stays path Bare = []
places_off stays [] (Grown node below beside) = if stays then places_of (Grown node below beside) else []
places_off stays (zero ∷ path) (Grown node below beside) = places_off stays path below ++ places_of beside
places_off stays (suc position ∷ path) (Grown node below beside) = places_of below ++ places_off stays (position ∷ path) beside
places_off stays [] (Kept place members beside) = if stays then places_of (Kept place members beside) else []
places_off stays (position ∷ path) (Kept place members beside) =
    if nat_lt position (width members) then places_off stays (position ∷ path) members ++ places_of beside
    else place ∷ places_of members ++ places_off stays ((position - width members) ∷ path) beside

-- The nodes of trees beside each other that aren't the one at the end of a path. Those below it are among them only where they stay.
abbrev pub nodes_off : (stays : Bool) → List ℕ → Layout → List LaidNode
nodes_off stays path Bare = []
nodes_off stays [] (Grown node below beside) = if stays then nodes_in (Grown node below beside) else []
nodes_off stays (zero ∷ []) (Grown node below beside) = nodes_off stays [] below ++ nodes_in beside
nodes_off stays (zero ∷ next ∷ path) (Grown node below beside) = node ∷ nodes_off stays (next ∷ path) below ++ nodes_in beside
nodes_off stays (suc position ∷ path) (Grown node below beside) = node ∷ nodes_in below ++ nodes_off stays (position ∷ path) beside
nodes_off stays [] (Kept place members beside) = if stays then nodes_in (Kept place members beside) else []
nodes_off stays (position ∷ path) (Kept place members beside) =
    if nat_lt position (width members) then nodes_off stays (position ∷ path) members ++ nodes_in beside
    else nodes_in members ++ nodes_off stays ((position - width members) ∷ path) beside

-- how many pages an edit may need of a document in this layout, whose nodes `kept` are its nodes after it too, where the content that comes takes so many: one for each node before it, two for each behind it, and the chain pages of those contents behind it that are too long for an item and weren't far before
abbrev pub edited_needs : (kept : Layout → List LaidNode) (pages before behind : ℕ) → Layout → ℕ
edited_needs kept pages before behind layout = before + 2 * behind + (near_pages (kept layout) + pages)

-- A document of this layout and of so many nodes, whose records stood at these places, became one that is allowed: the records hold it from the root of this entry on. The records that are to stay do so, with the lists of their proxies. The lists of contents are those of the nodes kept, and some that came; all others of the old ones went.
pub record IsEdited (Becomes : CutTree → Type 0) (kept : Layout → List LaidNode) (pages nodes : ℕ) (places stay : List RecordPlace) (old : Layout) (entry : DocEntry) (was now : Held) : Type 0 where
  pub document : CutTree
  pub becomes : Becomes document
  pub layout : Layout
  pub laid : (pieces : PieceMap now) → IsLaidOutAs (held_by pieces) (place_of entry.root) document layout
  pub counted : entry.nodes ≡ document_size document
  pub lost : List ℕ
  pub brought : List ℕ
  pub moves : MovesRecords places (document_places entry document layout) lost brought (edited_needs kept pages nodes (document_size document) old) was now
  pub contents_went : IsPermutation (lists_of (kept old) ++ lost) (contents_of old)
  pub contents_came : IsPermutation (contents_of layout) (lists_of (kept old) ++ brought)
  pub contents_once : AreOnce (contents_of layout)
  pub records_stay : (place : RecordPlace) → Contains stay place → record_at now place ≡ record_at was place
  pub lists_stay : (place : RecordPlace) (count chain : ℕ) → Contains stay place → NamesList was place count chain → now.lists chain ≡ was.lists chain

-- Each document of an entry, whose contents no other record names, became one that `Becomes` allows, which has another entry. Its records off the path stay; those below its end too, where that stays.
abbrev pub EditsDocument : {D : Type 0} → Ghosts D → Records → Records → D → D → (Becomes : Settings → CutTree → CutTree → Type 0) (stays : Bool) (path : List ℕ) (kept : Layout → List LaidNode) (pages : ℕ) (entry edited : DocEntry) → Type 0
EditsDocument d old new before after Becomes stays path kept pages entry edited =
    OwnComes d old new before after entry (λ document layout was now. IsEdited (Becomes was.settings document) kept pages (document_size document) (document_places entry document layout) (places_off stays path layout) layout edited was now)
