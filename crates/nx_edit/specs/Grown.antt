-- What a change below an interval made before the interval's own record is put, and the members that it gives it.
use Rattle.std.specs.Prelude.{◌≡◌, ◌⊎◌, ℕ, ◌+◌, ◌≤◌, List, [], ◌∷◌, ◌++◌, true, Contains, IsPermutation}
use Rattle.nx_records.specs.Words.{Held}
use Rattle.nx_piece.specs.declared.piece.Far.{Far}
use Rattle.nx_piece.specs.declared.piece.Piece.{Piece}
use Rattle.nx_matrix.specs.declared.rule.Rule.{Rule}
use Rattle.nx_cuts.specs.Cut.{Bare, Kept}
use Rattle.nx_layouts.specs.Layout.{RecordPlace, Layout, AreHeld, AreOnce, ArePlacedOnce, contents_of, lists_of, nodes_in, piece_of, places_of, without_places}
use Rattle.nx_hold.specs.Contents.{near_pages}
use Rattle.nx_hold.specs.Documents.{MovesRecords}
use Rattle.nx_hold.specs.Pieces.{record_at, MayName, NamesList, PieceMap, held_by}
use Rattle.nx_drawn.specs.Growth.{MayBeHeavy}
use Rattle.nx_edit.specs.Changing.{Put, changed_interval, kept_around, put_lists, way_of}
use Rattle.nx_edit.specs.Editing.{places_off}
use Rattle.nx_edit.specs.Removing.{fars_of}
use Rattle.nx_edit.specs.Rows.{row_nodes}

-- The record is among those that came, and is what it was, with the list that it names.
abbrev pub StaysAmong : (come : List RecordPlace) (was now : Held) → RecordPlace → Type 0
StaysAmong come was now place = Contains come place × (record_at now place ≡ record_at was place) × ((count chain : ℕ) → NamesList was place count chain → now.lists chain ≡ was.lists chain)

-- Some of the records below the interval moved, and lists of contents came, for no more pages than it has nodes and those that its long contents take; what is left of these is enough for those that aren't far yet. These far contents are named no more. Its piece has other members then, which are as the change makes them, and those off the way to what is put are among the records that didn't move, or stay among those that did.
pub record GrowsFrom (rules : List Rule) (put : Put) (position : ℕ) (path : List ℕ) (members : Layout) (piece : Piece) (dropped : List Far) (was mid : Held) : Type 0 where
  pub before : List RecordPlace
  pub gone : List RecordPlace
  pub come : List RecordPlace
  pub behind : List RecordPlace
  pub needs : ℕ
  pub grown : Layout
  pub is : piece_of grown ≡ piece
  pub places_were : places_of members ≡ before ++ (gone ++ behind)
  pub places_are : places_of grown ≡ before ++ (come ++ behind)
  pub brought : List ℕ
  pub moves : MovesRecords gone come [] brought needs was mid
  pub pages : ℕ
  pub few : needs ≤ row_nodes (without_places members) + pages
  pub rest : pages + near_pages (nodes_in grown) ≤ near_pages (kept_around put position path members)
  pub once : ArePlacedOnce come
  pub brought_once : AreOnce brought
  pub contents_went : IsPermutation (fars_of (kept_around put position path members) ++ dropped) (fars_of (nodes_in members))
  pub contents_came : IsPermutation (contents_of grown) (lists_of (kept_around put position path members) ++ (put_lists put ++ brought))
  pub held : (pieces : PieceMap mid) → AreHeld (held_by pieces) grown
  pub may : MayName mid piece.body.roots
  pub heavy : MayBeHeavy (was.settings).k ((was.settings).k + (was.settings).k) ((was.settings).k + 1) (without_places grown)
  pub interval_is : Kept tt (without_places grown) Bare ≡ changed_interval rules put position path members
  pub off : (other : RecordPlace) → Contains (places_off true (position ∷ way_of put path) members) other → Contains (before ++ behind) other ⊎ StaysAmong come was mid other
