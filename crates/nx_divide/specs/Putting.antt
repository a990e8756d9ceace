-- What putting the records of a draft makes of records.
use Rattle.std.specs.Prelude.{◌≡◌, List, [], ◌++◌}
use Rattle.nx_host.specs.declared.disk.Disk.{Ghosts}
use Rattle.nx_host.specs.Still.{IsStill}
use Rattle.nx_records.specs.Words.{Held}
use Rattle.nx_records.specs.declared.records.Records.{Records}
use Rattle.nx_records.specs.Records.{KeepsSaved, ComesTo}
use Rattle.nx_records.specs.Refusals.{RunsOn}
use Rattle.nx_piece.specs.declared.piece.Piece.{Piece}
use Rattle.nx_piece.specs.declared.piece.Proxy.{Proxy}
use Rattle.nx_piece.specs.Gapped.{Gapped}
use Rattle.nx_cuts.specs.Cut.{width}
use Rattle.nx_layouts.specs.Layout.{RecordPlace, piece_body, piece_of, proxies_of, AreLaidParts, AreHeld, ArePlacedOnce}
use Rattle.nx_hold.specs.Pieces.{MayName, IsTidy, PieceMap, held_by}
use Rattle.nx_hold.specs.Changes.{place_named}
use Rattle.nx_hold.specs.Documents.{AddsRecords}
use Rattle.nx_drafts.specs.Draft.{Draft, Ends, Comes, drawn_forest, layout_before, layout_after, came, unmarked, draft_body, draft_needs}

-- For each interval that was to come a record came, at a place of its own that was free, with the piece of its members. No list of a content came or went. Lists that were in order are so still where the far contents of
-- these nodes might be named. Where all that stood was held, and no part weighs more than a record's nodes may, all is held.
pub record PutsDraft (draft : Draft RecordPlace) (was now : Held) : Type 0 where
  pub adds : AddsRecords (came draft) [] (draft_needs draft) was now
  pub tidy : IsTidy was → MayName was (piece_body (layout_before draft)) → IsTidy now
  pub held : (before : PieceMap was) (after : PieceMap now) → AreLaidParts (was.settings).k (layout_after draft) → AreHeld (held_by before) (layout_before draft) → AreHeld (held_by after) (layout_after draft)
  pub once : ArePlacedOnce (came draft)

-- The records of these intervals were put, whatever lists records name.
pub record ArePut {D : Type 0} (d : Ghosts D) (old new : Records) (before after : D) (draft : Draft RecordPlace) : Type 0 where
  pub runs : RunsOn old new
  pub keeps : KeepsSaved d old new before after
  pub still : IsStill d before after
  pub puts : ComesTo d old new before after (PutsDraft draft)

-- A row was put so: this is what the piece that it stands in has of it, and these proxies came behind those that it had.
pub record PutsRow {D : Type 0} (d : Ghosts D) (old new : Records) (before after : D) (drawn : Draft (Unit {0})) (body : Gapped) (had has : List Proxy) : Type 0 where
  pub draft : Draft RecordPlace
  pub same : unmarked draft ≡ drawn
  pub body_is : body ≡ draft_body draft
  pub proxies_are : has ≡ had ++ proxies_of (layout_after draft)
  pub put : ArePut d old new before after draft

-- The records of all below the members of an interval that was to come were put so, and this is the piece of these members.
pub record GathersPiece {D : Type 0} (d : Ghosts D) (old new : Records) (before after : D) (members : Draft (Unit {0})) (piece : Piece) : Type 0 where
  pub draft : Draft RecordPlace
  pub same : unmarked draft ≡ members
  pub piece_is : piece ≡ piece_of (layout_after draft)
  pub put : ArePut d old new before after draft

-- The members of an interval that was to come were put so, in the record of this proxy.
pub record PutsMembers {D : Type 0} (d : Ghosts D) (old new : Records) (before after : D) (members : Draft (Unit {0})) (proxy : Proxy) : Type 0 where
  pub draft : Draft RecordPlace
  pub same : unmarked draft ≡ members
  pub roots : proxy.roots ≡ width (drawn_forest members)
  pub put : ArePut d old new before after (Comes (place_named proxy) draft Ends)
