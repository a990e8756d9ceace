-- What comes in the place of an interval whose record an edit passes: for the inner recursion of the edits.
use Rattle.std.specs.Prelude.{◌≡◌, ℕ, ◌+◌, ◌*◌, ◌<◌, ◌≤◌, false, List, [], ◌∷◌, ◌++◌, take, drop, Contains, Option, None, Some, IsSome, IsPermutation}
use Rattle.nx_tree.specs.Forest.{nodes}
use Rattle.nx_host.specs.Disk.{Rose}
use Rattle.nx_host.specs.declared.disk.Disk.{Ghosts}
use Rattle.nx_records.specs.Words.{Held}
use Rattle.nx_records.specs.Records.{StandsFor, KeepsSaved, has_free}
use Rattle.nx_records.specs.Refusals.{EndNow, RunsOn}
use Rattle.nx_records.specs.declared.records.Records.{Records}
use Rattle.nx_records.specs.declared.error.StoreError.{StoreError}
use Rattle.nx_records.specs.declared.error.StoreError.TheVariants as store
use Rattle.nx_piece.specs.declared.piece.Far.{Far}
use Rattle.nx_piece.specs.declared.piece.Piece.{Piece}
use Rattle.nx_piece.specs.declared.piece.Proxy.{Proxy}
use Rattle.nx_piece.specs.Gapped.{gapped_width}
use Rattle.nx_cuts.specs.Cut.{CutForest, Bare, Kept, forest}
use Rattle.nx_cuts.specs.Rows.{changed_row}
use Rattle.nx_layouts.specs.Layout.{RecordPlace, LaidNode, Layout, AreHeld, AreLaidParts, AreOnce, ArePlacedOnce, laid_forest, piece_of, places_of, proxies_of, nodes_in, lists_of, contents_of, without_places}
use Rattle.nx_hold.specs.Pieces.{record_at, HoldsPiece, NamesList, IsTidy, PieceMap, held_by}
use Rattle.nx_hold.specs.Contents.{near_pages}
use Rattle.nx_hold.specs.Changes.{place_named, RemovesPiece}
use Rattle.nx_hold.specs.Documents.{MovesRecords}
use Rattle.nx_drawn.specs.Edits.{removed_row, deleted}
use Rattle.nx_piece_edits.specs.Cutting.{without_proxy}
use Rattle.nx_layouts.specs.Cutting.{member_tree}
use Rattle.nx_nav.specs.declared.routing.PassedRecord.{PassedRecord}
use Rattle.nx_nav.specs.Route.{HasRoute}
use Rattle.nx_edit.specs.Editing.{places_off, nodes_off}
use Rattle.nx_edit.specs.Removing.{fars_of}
use Rattle.nx_edit.specs.Making.{PutsFar}
use Rattle.nx_edit.specs.Passing.{IsPassedAs, PutsOrStays}

-- a row without the tree at the path, whose first position is that of a tree of the row
abbrev pub deleted_row : List ℕ → CutForest → CutForest
deleted_row [] c = c
deleted_row (position ∷ []) c = removed_row position c
deleted_row (position ∷ next ∷ path) c = changed_row position (deleted (next ∷ path)) c

-- how many nodes stand in a row
abbrev pub row_nodes : CutForest → ℕ
row_nodes c = nodes (forest c)

-- The interval with the record at a place became a row of intervals that is allowed: its records are there, with the proxies that the piece above names in the place of the one that it named. Those that are to stay do so. The lists of contents are those of the nodes kept, these, which were there, and some that came; these far contents are named no more, and their lists stay.
pub record IsReplaced (k : ℕ) (Becomes : CutForest → Type 0) (place : RecordPlace) (members : Layout) (kept : List LaidNode) (put : List ℕ) (stay : List RecordPlace) (proxies : List Proxy) (gone : List Far) (was now : Held) : Type 0 where
  pub row : Layout
  pub becomes : Becomes (without_places row)
  pub proxies_are : proxies ≡ proxies_of row
  pub held : (pieces : PieceMap now) → AreHeld (held_by pieces) row
  pub once : ArePlacedOnce (places_of row)
  pub light : AreLaidParts k row
  pub brought : List ℕ
  pub moves : MovesRecords (place ∷ places_of members) (places_of row) [] brought (row_nodes (without_places members) + 2 * row_nodes (without_places row) + near_pages kept) was now
  pub contents_went : IsPermutation (fars_of kept ++ gone) (fars_of (nodes_in members))
  pub contents_came : IsPermutation (contents_of row) (lists_of kept ++ (put ++ brought))
  pub brought_once : AreOnce brought
  pub records_stay : (other : RecordPlace) → Contains stay other → record_at now other ≡ record_at was other
  pub lists_stay : (other : RecordPlace) (count chain : ℕ) → Contains stay other → NamesList was other count chain → now.lists chain ≡ was.lists chain

-- they have this piece, where one is known
abbrev pub IsKnown : Option Piece → Layout → Type 0
IsKnown None members = Unit {0}
IsKnown (Some piece) members = piece ≡ piece_of members

-- The record at the place is that of an interval with these members, whose piece may be known. Its records stand once each, no part weighs too much, the path leads to a tree of it or below it, and at most so many nodes are in it and below it.
pub record IsHeldInterval (now : Held) (pieces : PieceMap now) (known : Option Piece) (place : RecordPlace) (position : ℕ) (path : List ℕ) (limit : ℕ) (members : Layout) : Type 0 where
  pub is : IsKnown known members
  pub held : AreHeld (held_by pieces) (Kept place members Bare)
  pub once : ArePlacedOnce (places_of (Kept place members Bare))
  pub light : AreLaidParts (now.settings).k (Kept place members Bare)
  pub leads : IsSome (member_tree (laid_forest members) position path)
  pub few : row_nodes (without_places members) ≤ limit

-- an interval without the tree at the path, whose first position is that of a member
abbrev pub left_of : (position : ℕ) (path : List ℕ) (members : Layout) → CutForest
left_of position path members = deleted_row (position ∷ path) (Kept tt (without_places members) Bare)

-- the tree went from an interval, and so many nodes with it
abbrev pub IsLeftOf : (position : ℕ) (path : List ℕ) (gone : ℕ) (members : Layout) → CutForest → Type 0
IsLeftOf position path gone members row = (row ≡ left_of position path members) × (gone + row_nodes row ≡ row_nodes (without_places members))

-- of each such interval that the record at the place may be that of
abbrev pub OfInterval : {D : Type 0} → Ghosts D → Records → D → (known : Option Piece) → RecordPlace → (position : ℕ) → (path : List ℕ) → (limit : ℕ) → (Held → Layout → Type 0) → Type 0
OfInterval d records disk known place position path limit P =
    (saved now : Held) (pieces : PieceMap now) (members : Layout) → StandsFor d records disk saved now → IsTidy now → IsHeldInterval now pieces known place position path limit members → P now members

-- ... and through whose record the path passes so
abbrev pub OfIntervalAlong : {D : Type 0} → Ghosts D → Records → D → List PassedRecord → (last : Piece) → RecordPlace → (position : ℕ) → (path : List ℕ) → (limit : ℕ) → (Held → Layout → Type 0) → Type 0
OfIntervalAlong d records disk passed last place position path limit P = OfInterval d records disk None place position path limit (λ now members. HasRoute now place position path passed last → P now members)

-- The tree at the path, which begins with the position of a member, went out of an interval; the records now stand for that, with lists in order.
abbrev pub TreeGoes : {D : Type 0} → Ghosts D → Records → D → (saved : Held) → RecordPlace → (position : ℕ) (path : List ℕ) (went : ℕ) (proxies : List Proxy) (gone : List Far) → (was : Held) → Layout → Type 0
TreeGoes d records disk saved place position path went proxies gone was members =
    (now : Held) × StandsFor d records disk saved now × IsTidy now
    × IsReplaced (was.settings).k (IsLeftOf position path went members) place members (nodes_off false (position ∷ path) members) [] (places_off false (position ∷ path) members) proxies gone was now

-- Whatever members the interval has whose record stands there, and whose piece may be known: the tree goes.
abbrev pub DeletesIn : {D : Type 0} → Ghosts D → Records → Records → D → D → (known : Option Piece) → RecordPlace → (position : ℕ) (path : List ℕ) (limit went : ℕ) (proxies : List Proxy) (gone : List Far) → Type 0
DeletesIn d old new before after known place position path limit went proxies gone =
    (saved was : Held) (pieces : PieceMap was) (members : Layout) → StandsFor d old before saved was → IsTidy was → IsHeldInterval was pieces known place position path limit members
    → TreeGoes d new after saved place position path went proxies gone was members

-- the same where the path passes these records and ends in this last piece
abbrev pub DeletesAlong : {D : Type 0} → Ghosts D → Records → Records → D → D → List PassedRecord → (last : Piece) → RecordPlace → (position : ℕ) (path : List ℕ) (limit went : ℕ) (proxies : List Proxy) (gone : List Far) → Type 0
DeletesAlong d old new before after passed last place position path limit went proxies gone =
    (saved was : Held) (pieces : PieceMap was) (members : Layout) → StandsFor d old before saved was → IsTidy was → IsHeldInterval was pieces None place position path limit members → HasRoute was place position path passed last
    → TreeGoes d new after saved place position path went proxies gone was members

-- how many pages may be needed to take the tree away
abbrev pub left_needs : (position : ℕ) (path : List ℕ) (members : Layout) → ℕ
left_needs position path members = row_nodes (without_places members) + 2 * row_nodes (left_of position path members) + near_pages (nodes_off false (position ∷ path) members)

-- No page is free now, and fewer were free than it may need, of each interval that is spoken of.
pub record FindsFewIn {D : Type 0} (d : Ghosts D) (Of : (Held → Layout → Type 0) → Type 0) (position : ℕ) (path : List ℕ) (old new : Records) (before after : D) : Type 0 where
  pub runs : RunsOn old new
  pub keeps : KeepsSaved d old new before after
  pub none_free : has_free new ≡ false
  pub few : Of (λ now members. now.free < left_needs position path members)

-- Why a tree wasn't taken out of the intervals that are spoken of, and what that leaves.
abbrev pub NotDeletedOf : {D : Type 0} → Ghosts D → (Of : (Held → Layout → Type 0) → Type 0) → (position : ℕ) → (path : List ℕ) → StoreError → Records → Records → D → D → Type 0
NotDeletedOf d Of position path store.Disk old new before after = Rose (d.faults before) (d.faults after) × EndNow old new
NotDeletedOf d Of position path store.Full old new before after = FindsFewIn d Of position path old new before after
NotDeletedOf d Of position path (store.Damaged page) old new before after = EndNow old new × Of (λ now members. ⊥)
NotDeletedOf d Of position path store.Memory old new before after = RunsOn old new × KeepsSaved d old new before after
NotDeletedOf d Of position path store.Ended old new before after = ⊥
NotDeletedOf d Of position path store.Exists old new before after = ⊥
NotDeletedOf d Of position path store.NotAStore old new before after = ⊥

-- ... of those whose piece may be known
abbrev pub NotDeletedIn : {D : Type 0} → Ghosts D → (known : Option Piece) → RecordPlace → (position : ℕ) → (path : List ℕ) → (limit : ℕ) → StoreError → Records → Records → D → D → Type 0
NotDeletedIn d known place position path limit e old new before after = NotDeletedOf d (OfInterval d old before known place position path limit) position path e old new before after

-- ... of those through whose record the path passes so
abbrev pub NotDeletedAlong : {D : Type 0} → Ghosts D → List PassedRecord → (last : Piece) → RecordPlace → (position : ℕ) → (path : List ℕ) → (limit : ℕ) → StoreError → Records → Records → D → D → Type 0
NotDeletedAlong d passed last place position path limit e old new before after = NotDeletedOf d (OfIntervalAlong d old before passed last place position path limit) position path e old new before after

-- what is left of a piece came in the place of its record, under this proxy; nothing did where it has no root
abbrev pub IsRestPut : (place : RecordPlace) (rest : Piece) (left : Option Proxy) (was now : Held) → Type 0
IsRestPut place rest None was now = (gapped_width rest.body.roots ≡ 0) × RemovesPiece place was now
IsRestPut place rest (Some proxy) was now = (1 ≤ gapped_width rest.body.roots) × (proxy.roots ≡ gapped_width rest.body.roots) × PutsFar place (place_named proxy) rest was now

-- a piece in which this comes in the place of a proxy, or nothing does
abbrev pub with_left : (index : ℕ) (left : Option Proxy) (piece : Piece) → Piece
with_left index None piece = record {
  body = record { roots = without_proxy index piece.body.roots };
  proxies = take index piece.proxies ++ drop (index + 1) piece.proxies;
}
with_left index (Some proxy) piece = record { body = piece.body; proxies = take index piece.proxies ++ proxy ∷ drop (index + 1) piece.proxies }

-- Whatever piece the record has that was passed: what is left of the interval came in the place of its proxy, and the piece in the place of its record.
abbrev pub PassesLeft : (place : RecordPlace) → PassedRecord → (left : Option Proxy) (own : Proxy) → (was now : Held) → Type 0
PassesLeft place passed left own was now =
    (piece : Piece) → HoldsPiece was place piece → IsPassedAs passed piece → (own.roots ≡ gapped_width (with_left passed.index left piece).body.roots) × PutsOrStays place (place_named own) (with_left passed.index left piece) was now
