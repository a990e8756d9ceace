-- A piece that an edit made heavier, in the place of its record, and what stands there where it outweighs K.
use Rattle.std.specs.Prelude.{◌≡◌, ℕ, ◌+◌, ◌*◌, ◌<◌, ◌≤◌, false, List, [], ◌∷◌, length, Option}
use Rattle.nx_host.specs.Disk.{Rose}
use Rattle.nx_host.specs.declared.disk.Disk.{Ghosts}
use Rattle.nx_tree.specs.declared.node.Node.{Node}
use Rattle.nx_tree.specs.Document.{most_nodes}
use Rattle.nx_records.specs.Words.{Held}
use Rattle.nx_records.specs.Records.{StandsFor, KeepsSaved, has_free}
use Rattle.nx_records.specs.Refusals.{EndNow, RunsOn}
use Rattle.nx_records.specs.declared.records.Records.{Records}
use Rattle.nx_records.specs.declared.error.StoreError.{StoreError}
use Rattle.nx_records.specs.declared.error.StoreError.TheVariants as store
use Rattle.nx_piece.specs.declared.piece.Piece.{Piece}
use Rattle.nx_matrix.specs.declared.rule.Rule.{Rule}
use Rattle.nx_cuts.specs.Cut.{Bare, Kept}
use Rattle.nx_layouts.specs.Layout.{RecordPlace, Layout, AreHeld, ArePlacedOnce, nodes_in, piece_body, piece_of, places_of, without_places}
use Rattle.nx_hold.specs.Contents.{near_pages}
use Rattle.nx_hold.specs.Pieces.{HoldsPiece, IsTidy, MayName, PieceMap, held_by}
use Rattle.nx_drawn.specs.Growth.{MayBeHeavy}
use Rattle.nx_divide.specs.declared.dividing.Row.{Row}
use Rattle.nx_edit.specs.Changing.{AreSplitOf, IsReplacedByRow}
use Rattle.nx_edit.specs.Rows.{row_nodes}

-- The piece is that of an interval with these members, which may outweigh K as far as one node more makes it, and has no more nodes than a document. The intervals below it are held in records that stand once each, and another than these is at the place, with any piece; and the lists of its far contents may be named.
pub record IsGrownMembers (now : Held) (pieces : PieceMap now) (piece : Piece) (place : RecordPlace) (members : Layout) : Type 0 where
  pub is : piece_of members ≡ piece
  pub there : (old : Piece) × HoldsPiece now place old
  pub held : AreHeld (held_by pieces) members
  pub may : MayName now (piece_body members)
  pub once : ArePlacedOnce (place ∷ places_of members)
  pub heavy : MayBeHeavy (now.settings).k ((now.settings).k + (now.settings).k) ((now.settings).k + 1) (without_places members)
  pub few : row_nodes (without_places members) ≤ most_nodes

-- Whatever members the piece is of: their interval stands in the place of the record, split where it outweighs K, and all records below it stay. Contents that are too long for their items come into lists. At most two pages fewer are free for each of its nodes, and those of such contents, and of these a page for each proxy of the row is left. `above` is the node above it, whose part has so much room; what joins that part may be named there, whatever the records hold.
abbrev pub PutsGrown : List Rule → (room : ℕ) (above : Option Node) → Piece → RecordPlace → (row : Row) → (was now : Held) → Type 0
PutsGrown rules room above piece place row was now =
    MayName now row.items
    × ((pieces : PieceMap was) (members : Layout) → IsGrownMembers was pieces piece place members
    → (r : IsReplacedByRow (was.settings).k (AreSplitOf was.settings rules room above (Kept tt (without_places members) Bare)) place members (nodes_in members) [] (places_of members) row [] was now)
    × (was.free + length row.proxies ≤ now.free + (2 * row_nodes (without_places (r.0).row) + near_pages (nodes_in members))))

-- how many pages may be needed
abbrev pub grown_needs : (members : Layout) → ℕ
grown_needs members = 2 * row_nodes (without_places members) + near_pages (nodes_in members)

-- of all members that the piece may be of
abbrev pub OfGrown : {D : Type 0} → Ghosts D → Records → D → Piece → RecordPlace → (Held → Layout → Type 0) → Type 0
OfGrown d records disk piece place P =
    (saved now : Held) (pieces : PieceMap now) (members : Layout) → StandsFor d records disk saved now → IsTidy now → IsGrownMembers now pieces piece place members → P now members

-- No page is free now, and fewer were free than it may need.
pub record FindsFewToGrow {D : Type 0} (d : Ghosts D) (piece : Piece) (place : RecordPlace) (old new : Records) (before after : D) : Type 0 where
  pub runs : RunsOn old new
  pub keeps : KeepsSaved d old new before after
  pub none_free : has_free new ≡ false
  pub few : OfGrown d old before piece place (λ now members. now.free < grown_needs members)

-- Why the piece wasn't put, and what that leaves.
abbrev pub NotGrown : {D : Type 0} → Ghosts D → Piece → RecordPlace → StoreError → Records → Records → D → D → Type 0
NotGrown d piece place store.Disk old new before after = Rose (d.faults before) (d.faults after) × EndNow old new
NotGrown d piece place store.Full old new before after = FindsFewToGrow d piece place old new before after
NotGrown d piece place (store.Damaged page) old new before after = EndNow old new × OfGrown d old before piece place (λ now members. ⊥)
NotGrown d piece place store.Memory old new before after = RunsOn old new × KeepsSaved d old new before after
NotGrown d piece place store.Ended old new before after = ⊥
NotGrown d piece place store.Exists old new before after = ⊥
NotGrown d piece place store.NotAStore old new before after = ⊥
