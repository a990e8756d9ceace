-- A part that was too heavy, divided: its intervals have records of their own.
use Rattle.std.specs.Prelude.{◌≡◌, ℕ, ◌+◌, ◌<◌, ◌≤◌, false, List, [], ◌∷◌, ◌++◌, length, take, drop, Option, Contains}
use Rattle.nx_host.specs.Disk.{Rose}
use Rattle.nx_host.specs.declared.disk.Disk.{Ghosts}
use Rattle.nx_tree.specs.declared.node.Node.{Node}
use Rattle.nx_cuts.specs.Cut.{Bare}
use Rattle.nx_matrix.specs.declared.rule.Rule.{Rule}
use Rattle.nx_records.specs.Words.{Held, Settings}
use Rattle.nx_records.specs.declared.records.Records.{Records}
use Rattle.nx_records.specs.declared.error.StoreError.{StoreError}
use Rattle.nx_records.specs.declared.error.StoreError.TheVariants as error
use Rattle.nx_records.specs.Records.{HasChanges, StandsFor, KeepsSaved, has_free}
use Rattle.nx_records.specs.Refusals.{EndNow, HadEnded, RunsOn, NotStored}
use Rattle.nx_parts.specs.declared.interval.Interval.{Interval}
use Rattle.nx_sketch.specs.Split.{IsDivision}
use Rattle.nx_split.specs.Piece.{placed_of}
use Rattle.nx_piece.specs.declared.piece.Piece.{Piece}
use Rattle.nx_piece.specs.Gapped.{gapped_weight, gapped_width, proxies_in}
use Rattle.nx_piece.specs.Valid.{AreApart, AreFar, AreNear, HaveRoots}
use Rattle.nx_divide.specs.declared.dividing.Row.{Row}
use Rattle.nx_layouts.specs.Layout.{RecordPlace, Layout, laid_weight, piece_of, piece_body, proxies_of, places_of, without_places, AreLaidParts, AreHeld, ArePlacedOnce}
use Rattle.nx_layouts.specs.Replace.{replaced_at}
use Rattle.nx_hold.specs.Pieces.{HoldsNone, MayName, IsTidy, PieceMap, held_by}
use Rattle.nx_hold.specs.Changes.{ComesTidyWhere}
use Rattle.nx_hold.specs.Documents.{MovesRecords}
use Rattle.nx_drawn.specs.Splits.{Divides, SplitsRow}
use Rattle.nx_drafts.specs.Draft.{Draft, drawn_forest, layout_before, layout_after, came, unmarked, draft_needs}

-- These intervals are a division of the piece, below some node whose part has some room.
pub record IsDivisionOf (settings : Settings) (piece : Piece) (parts : List Interval) (raised : Option ℕ) : Type 0 where
  pub rules : List Rule
  pub above : Option Node
  pub room : ℕ
  pub division : IsDivision settings.k (placed_of rules above piece) room settings.target settings.tolerance parts raised

-- no record of this layout stands at the place
abbrev pub StandApart : RecordPlace → Layout → Type 0
StandApart place layout = Contains (places_of layout) place → ⊥

-- The record at a place went, and for each interval that was to come a record came, at a place of its own that was free or that one's, with the piece of its members. Where
-- all that stood was held, in records of other places, and no part weighs more than a record's nodes may, all is held. No list of a content came or went.
pub record PutsDraftAt (place : RecordPlace) (draft : Draft RecordPlace) (was now : Held) : Type 0 where
  pub moves : MovesRecords (place ∷ []) (came draft) [] [] (draft_needs draft) was now
  pub held : (before : PieceMap was) (after : PieceMap now) → AreLaidParts (was.settings).k (layout_after draft) → StandApart place (layout_before draft) → AreHeld (held_by before) (layout_before draft)
      → AreHeld (held_by after) (layout_after draft)
  pub once : ArePlacedOnce (came draft)

-- The records of these intervals were put in the place of one, where the far contents of these nodes might be named.
pub record ArePutAt {D : Type 0} (d : Ghosts D) (place : RecordPlace) (old new : Records) (before after : D) (draft : Draft RecordPlace) : Type 0 where
  pub runs : RunsOn old new
  pub keeps : KeepsSaved d old new before after
  pub changes : HasChanges new
  pub puts : ComesTidyWhere d old new before after (λ was. MayName was (piece_body (layout_before draft))) (PutsDraftAt place draft)

-- The intervals of a row were put so, and this is what a piece has of the row.
pub record PutsRowAt {D : Type 0} (d : Ghosts D) (place : RecordPlace) (old new : Records) (before after : D) (drawn : Draft (Unit {0})) (row : Row) : Type 0 where
  pub draft : Draft RecordPlace
  pub same : unmarked draft ≡ drawn
  pub items_are : row.items ≡ piece_body (layout_after draft)
  pub proxies_are : row.proxies ≡ proxies_of (layout_after draft)
  pub put : ArePutAt d place old new before after draft

-- Why they weren't put so: they may take so many pages, or no piece is at the place.
abbrev pub NotPutAt : {D : Type 0} → Ghosts D → RecordPlace → ℕ → StoreError → Records → Records → D → D → Type 0
NotPutAt d place needs e old new before after = (page : ℕ) × NotStored d (λ was. needs) (λ was. IsTidy was → HoldsNone was place) page e old new before after

-- The interval with these members is divided: what stood below its part stands, for each interval of a division of the part a record came in the place of one, no part weighs more
-- than k, and this stands for all trees in the piece above.
pub record DividesMembers {D : Type 0} (d : Ghosts D) (settings : Settings) (rules : List Rule) (room : ℕ) (above : Option Node) (place : RecordPlace) (old new : Records) (before after : D) (members : Layout) (row : Row) : Type 0 where
  pub draft : Draft RecordPlace
  pub stands : layout_before draft ≡ members
  pub divides : Divides settings rules room above (without_places members) (without_places (layout_after draft))
  pub light : AreLaidParts settings.k (layout_after draft)
  pub items_are : row.items ≡ piece_body (layout_after draft)
  pub proxies_are : row.proxies ≡ proxies_of (layout_after draft)
  pub put : ArePutAt d place old new before after draft

-- A piece whose part has so much room may have the row in the place of a proxy: it has members, its runs are apart, each that they stand for has a proxy, and its trees
-- weigh no more than the room, with contents that stand where they do when they are written.
pub record IsRowWithin (room : ℕ) (row : Row) : Type 0 where
  pub some : 1 ≤ gapped_width row.items
  pub apart : AreApart row.items
  pub counted : proxies_in row.items ≡ length row.proxies
  pub few : length row.proxies ≤ 524288
  pub ranged : HaveRoots row.proxies
  pub near : AreNear row.items
  pub far : AreFar row.items
  pub light : gapped_weight row.items ≤ room

-- The record at a place went, and records came at some places, which were free or that one's. No list of a content came or went, and the far contents of this row may be named.
abbrev pub PutsSome : RecordPlace → Row → Held → Held → Type 0
PutsSome place row was now = (places : List RecordPlace) × (needs : ℕ) × MovesRecords (place ∷ []) places [] [] needs was now × MayName now row.items

-- The interval of the proxy at an index of a row is replaced by others, and by a tree that joins the part above where one is raised, which has that much room: all its trees,
-- and this is what the piece above has of them. Its record at this place went, and those that came stand once each. The row is split, and where all else was held, what stands
-- below the part too, in records of other places, and the far contents of the row might be named, all is held. No list of a content comes or goes, and the far contents of what
-- joins the part above may be named there.
pub record SplitsAt {D : Type 0} (d : Ghosts D) (settings : Settings) (rules : List Rule) (room : ℕ) (top : Option Node) (index : ℕ) (place : RecordPlace) (old new : Records) (before after : D) (whole members : Layout) (row : Row) : Type 0 where
  pub draft : Draft RecordPlace
  pub stands : layout_before draft ≡ members
  pub splits : SplitsRow settings rules room top (without_places whole) (without_places (replaced_at index (layout_after draft) whole))
  pub light : AreLaidParts settings.k (replaced_at index (layout_after draft) whole)
  pub fits : laid_weight (layout_after draft) ≤ room
  pub items_are : row.items ≡ piece_body (layout_after draft)
  pub proxies_are : row.proxies ≡ proxies_of (layout_after draft)
  pub proxies : proxies_of (replaced_at index (layout_after draft) whole) ≡ take index (proxies_of whole) ++ row.proxies ++ drop (index + 1) (proxies_of whole)
  pub comes : ComesTidyWhere d old new before after (λ was. MayName was (piece_body members)) (λ was now. MovesRecords (place ∷ []) (came draft) [] [] (draft_needs draft) was now × ArePlacedOnce (came draft) × MayName now (piece_body (layout_after draft))
      × ((before : PieceMap was) (after : PieceMap now) → StandApart place (replaced_at index Bare whole) → StandApart place members → MayName was (piece_body whole) → AreHeld (held_by before) (replaced_at index Bare whole)
      → AreHeld (held_by before) members → AreHeld (held_by after) (replaced_at index (layout_after draft) whole)))

-- Over pages whose lists are in order, fewer pages were free than the records of a division of these members may take.
pub record FindsFewPages {D : Type 0} (d : Ghosts D) (settings : Settings) (rules : List Rule) (room : ℕ) (above : Option Node) (old : Records) (before : D) (members : Layout) : Type 0 where
  pub draft : Draft (Unit {0})
  pub stands : layout_before draft ≡ members
  pub divides : Divides settings rules room above (without_places members) (drawn_forest draft)
  pub few : (saved now : Held) → StandsFor d old before saved now → IsTidy now → now.free < draft_needs draft

-- No page is free now, and too few were for a division of each interval with this piece.
pub record NoRoomToDivide {D : Type 0} (d : Ghosts D) (settings : Settings) (rules : List Rule) (room : ℕ) (above : Option Node) (piece : Piece) (old new : Records) (before after : D) : Type 0 where
  pub runs : RunsOn old new
  pub none_free : has_free new ≡ false
  pub few : (members : Layout) → piece_of members ≡ piece → AreLaidParts settings.k members → FindsFewPages d settings rules room above old before members
  pub keeps : KeepsSaved d old new before after

-- Why the record at a place wasn't replaced by those of a division of this piece.
abbrev pub NotSplitAt : {D : Type 0} → Ghosts D → Settings → List Rule → (room : ℕ) → (above : Option Node) → RecordPlace → Piece → StoreError → Records → Records → D → D → Type 0
NotSplitAt d settings rules room above place piece error.Disk old new before after = Rose (d.faults before) (d.faults after) × EndNow old new
NotSplitAt d settings rules room above place piece error.Full old new before after = NoRoomToDivide d settings rules room above piece old new before after
NotSplitAt d settings rules room above place piece (error.Damaged page) old new before after = EndNow old new × ((saved now : Held) → StandsFor d old before saved now → IsTidy now → HoldsNone now place)
NotSplitAt d settings rules room above place piece error.Ended old new before after = HadEnded old new before after
NotSplitAt d settings rules room above place piece error.Memory old new before after = RunsOn old new × KeepsSaved d old new before after
NotSplitAt d settings rules room above place piece error.Exists old new before after = ⊥
NotSplitAt d settings rules room above place piece error.NotAStore old new before after = ⊥
