-- What a call makes of the pieces that records hold.
use Rattle.std.specs.Prelude.{◌≡◌, ◌⊎◌, ℕ, ◌+◌, ◌*◌, ◌≤◌, if◌then◌else◌, List, length, Option, None, Some}
use Rattle.nx_host.specs.declared.disk.Disk.{Ghosts}
use Rattle.nx_records.specs.Words.{Held, chain_count}
use Rattle.nx_records.specs.Records.{StandsFor}
use Rattle.nx_records.specs.declared.records.Records.{Records}
use Rattle.nx_records.specs.declared.records.Rid.{Rid}
use Rattle.nx_piece.specs.declared.piece.Piece.{Piece}
use Rattle.nx_piece.specs.declared.piece.Proxy.{Proxy}
use Rattle.nx_piece.specs.declared.piece.Stored.{Stored}
use Rattle.nx_piece.specs.Contents.{fars_in}
use Rattle.nx_piece.specs.Gapped.{gapped_nodes}
use Rattle.nx_piece.specs.Valid.{is_inline}
use Rattle.nx_layouts.specs.Layout.{RecordPlace}
use Rattle.nx_hold.specs.declared.taking.TakenPiece.{TakenPiece}
use Rattle.nx_hold.specs.Pieces.{record_at, IsStored, HoldsPiece, HoldsNone, NamesList, HasItsList, MayName, IsTidy, ChangesOneRecord, PieceMap}

abbrev pub place_of : Rid → RecordPlace
place_of rid = record { page = rid.page; slot = rid.slot }

-- the place that a proxy names
abbrev pub place_named : Proxy → RecordPlace
place_named proxy = record { page = proxy.page; slot = proxy.slot }

-- how many chain pages the proxies of a piece take
abbrev pub chain_pages : Piece → ℕ
chain_pages piece = if is_inline piece then 0 else chain_count (8 * length piece.proxies)

-- how many pages a call may need that puts the piece: one, and those of the chain
abbrev pub piece_needs : Piece → ℕ
piece_needs piece = 1 + chain_pages piece

-- so many pages are read for the piece of the record at the place: the record's, and the chain pages of the list that it names
abbrev pub TakesPages : Held → RecordPlace → ℕ → Type 0
TakesPages held place pages = (pages ≡ 1) ⊎ ((count : ℕ) × (chain : ℕ) × NamesList held place count chain × (pages ≡ 1 + chain_count (8 * count)))

-- the record at the place has the bytes of a valid piece
abbrev pub IsPieceRecord : Held → RecordPlace → Type 0
IsPieceRecord held place = (stored : Stored) × IsStored held place stored

-- A piece came to a place that was free.
pub record AddsPiece (place : RecordPlace) (piece : Piece) (was now : Held) : Type 0 where
  pub was_free : record_at was place ≡ None
  pub holds : HoldsPiece now place piece
  pub alone : ChangesOneRecord None (Some place) (piece_needs piece) was now

-- A piece came in the place of another, or came to a place that was free and the other went. A record that is no longer than the other keeps its place.
pub record UpdatesPiece (old new : RecordPlace) (piece : Piece) (was now : Held) : Type 0 where
  pub was_there : IsPieceRecord was old
  pub was_free : (old ≡ new → ⊥) → record_at was new ≡ None
  pub holds : HoldsPiece now new piece
  pub stays : (before after : List ℕ) → record_at was old ≡ Some before → record_at now new ≡ Some after → length after ≤ length before → new ≡ old
  pub alone : ChangesOneRecord (Some old) (Some new) (piece_needs piece) was now

-- A piece went.
pub record RemovesPiece (place : RecordPlace) (was now : Held) : Type 0 where
  pub was_there : IsPieceRecord was place
  pub alone : ChangesOneRecord (Some place) None 0 was now

-- what was taken away is this piece: its proxies, where its far contents stand, and how many nodes it had
pub record IsTakenOf (piece : Piece) (taken : TakenPiece) : Type 0 where
  pub proxies : taken.proxies ≡ piece.proxies
  pub fars : (taken.fars).items ≡ fars_in piece.body.roots
  pub nodes : taken.nodes ≡ gapped_nodes piece.body.roots

-- Of what they stood for, where its lists are in order, the records now stand for something that came of it so, and its lists are in order.
abbrev pub ComesTidy : {D : Type 0} → Ghosts D → Records → Records → D → D → (Held → Held → Type 0) → Type 0
ComesTidy d old new before after Comes =
    (saved now : Held) → StandsFor d old before saved now → IsTidy now → (next : Held) × StandsFor d new after saved next × IsTidy next × Comes now next

-- As that, but only of what they stood for where this is so.
abbrev pub ComesTidyWhere : {D : Type 0} → Ghosts D → Records → Records → D → D → (Is : Held → Type 0) → (Held → Held → Type 0) → Type 0
ComesTidyWhere d old new before after Is Comes =
    (saved now : Held) → StandsFor d old before saved now → IsTidy now → Is now → (next : Held) × StandsFor d new after saved next × IsTidy next × Comes now next

-- Of what they stood for, where this is so, the records now stand for something that came of it so, whatever else is there.
abbrev pub ComesWhere : {D : Type 0} → Ghosts D → Records → Records → D → D → (Is : Held → Type 0) → (Held → Held → Type 0) → Type 0
ComesWhere d old new before after Is Comes = (saved now : Held) → StandsFor d old before saved now → Is now → (next : Held) × StandsFor d new after saved next × Comes now next

-- Of what they stood for, where the list that the record at the place names is in order, the records now stand for something that came of it so.
abbrev pub ComesOwn : {D : Type 0} → Ghosts D → Records → Records → D → D → RecordPlace → (Held → Held → Type 0) → Type 0
ComesOwn d old new before after place Comes = (saved now : Held) → StandsFor d old before saved now → HasItsList now place → (next : Held) × StandsFor d new after saved next × Comes now next

-- An added piece is where no piece was, all earlier ones stay, and so do lists in order.
pub record IsAdded (place : RecordPlace) (piece : Piece) (was now : Held) : Type 0 where
  pub was_none : HoldsNone was place
  pub there : HoldsPiece now place piece
  pub stay : (other : RecordPlace) (earlier : Piece) → HoldsPiece was other earlier → HoldsPiece now other earlier
  pub tidy : IsTidy now

abbrev pub AddsStay : Type 0
AddsStay = (place : RecordPlace) (piece : Piece) (was now : Held) → IsTidy was → MayName was piece.body.roots → AddsPiece place piece was now → IsAdded place piece was now

-- a map that had nothing at the place has the piece there, and all that it had
pub record HasGrown (place : RecordPlace) (piece : Piece) (before after : RecordPlace → Option Piece) : Type 0 where
  pub none : before place ≡ None
  pub there : after place ≡ Some piece
  pub stay : (other : RecordPlace) (earlier : Piece) → before other ≡ Some earlier → after other ≡ Some earlier

-- An added piece makes the map of pieces grow.
abbrev pub MapGrows : Type 0
MapGrows = (place : RecordPlace) (piece : Piece) (was now : Held) (before : PieceMap was) (after : PieceMap now) → IsAdded place piece was now → HasGrown place piece before.piece_at after.piece_at
