-- Records that went, changed and came, and records that hold a whole document.
use Rattle.std.specs.Prelude.{◌≡◌, ◌⊎◌, ℕ, ◌+◌, ◌≤◌, List, [], ◌∷◌, ◌++◌, length, None, Some, IsSome, Contains}
use Rattle.nx_host.specs.declared.disk.Disk.{Ghosts}
use Rattle.nx_records.specs.Words.{Held, chain_count}
use Rattle.nx_records.specs.Changes.{WritesList, FreesList}
use Rattle.nx_records.specs.Records.{StandsFor}
use Rattle.nx_records.specs.declared.records.Records.{Records}
use Rattle.nx_piece.specs.declared.piece.Far.{Far}
use Rattle.nx_piece.specs.declared.piece.Piece.{Piece}
use Rattle.nx_cuts.specs.Cut.{CutTree}
use Rattle.nx_layouts.specs.Layout.{RecordPlace, Layout, places_of, contents_of, AreHeld, IsLaidOut}
use Rattle.nx_hold.specs.Pieces.{record_at, HoldsPiece, NamesList, NamesContent, NamesAny, IsNamedNowhere, IsNoProxies, IsTidy, PieceMap, held_by}
use Rattle.nx_hold.specs.Changes.{piece_needs, AddsPiece, UpdatesPiece, RemovesPiece}

-- a record at one of these places names the list for its proxies, or it is one of these
abbrev pub NamesAmong : Held → (places : List RecordPlace) → (lists : List ℕ) → ℕ → Type 0
NamesAmong held places lists chain = ((place : RecordPlace) × (count : ℕ) × Contains places place × NamesList held place count chain) ⊎ Contains lists chain

-- The records at the first places went or changed, and there are records at the second ones, which were among the first or free. So did the lists that records at the first places
-- named for their proxies, and these lists of contents, which none of the other records names; and those come that records at the second ones name, and these. All other records and
-- lists stay, and at most so many fewer pages are free.
pub record MovesRecords (gone come : List RecordPlace) (lost brought : List ℕ) (needs : ℕ) (was now : Held) : Type 0 where
  pub fresh : (place : RecordPlace) → Contains come place → (Contains gone place → ⊥) → record_at was place ≡ None
  pub came : (place : RecordPlace) → Contains come place → IsSome (record_at now place)
  pub went : (place : RecordPlace) → Contains gone place → (Contains come place → ⊥) → record_at now place ≡ None
  pub kept : (place : RecordPlace) → (Contains gone place → ⊥) → (Contains come place → ⊥) → record_at now place ≡ record_at was place
  pub lists_stay : (chain : ℕ) (bytes : List ℕ) → was.lists chain ≡ Some bytes → (NamesAmong was gone lost chain → ⊥) → now.lists chain ≡ Some bytes
  pub lists_come : (chain : ℕ) (bytes : List ℕ) → now.lists chain ≡ Some bytes → (was.lists chain ≡ Some bytes) ⊎ NamesAmong now come brought chain
  pub lists_go : (chain : ℕ) (bytes : List ℕ) → now.lists chain ≡ Some bytes → NamesAmong was gone lost chain → NamesAmong now come brought chain
  pub lists_fresh : (chain : ℕ) → NamesAmong now come brought chain → (NamesAmong was gone lost chain → ⊥) → was.lists chain ≡ None
  pub lost_alone : (chain : ℕ) → Contains lost chain → (place : RecordPlace) → (Contains gone place → ⊥) → NamesAny was place chain → ⊥
  pub settings : now.settings ≡ was.settings
  pub catalog : now.catalog ≡ was.catalog
  pub free : was.free ≤ now.free + needs

-- Records came at these places, which were free, and with them the lists that they name for their proxies, and these lists of contents. All others stay, and at most so many fewer
-- pages are free.
abbrev pub AddsRecords : List RecordPlace → (brought : List ℕ) → ℕ → Held → Held → Type 0
AddsRecords places brought needs was now = MovesRecords [] places [] brought needs was now

-- The records hold the document from the record at this place on: it is laid out in their pieces, with no part heavier than the settings let it be. Which lists
-- other records name says nothing.
pub record HasDocument {D : Type 0} (d : Ghosts D) (records : Records) (disk : D) (root : RecordPlace) (document : CutTree) : Type 0 where
  pub saved : Held
  pub now : Held
  pub stands : StandsFor d records disk saved now
  pub pieces : PieceMap now
  pub laid : IsLaidOut (held_by pieces) root document

-- the same places or lists, in any order
abbrev pub HaveSame : {T : Type 0} → List T → List T → Type 0
HaveSame {T} one other = (x : T) → (Contains one x → Contains other x) × (Contains other x → Contains one x)

-- In which order records and lists are named that move says nothing, nor do more pages.
abbrev pub MovesSame : Type 0
MovesSame = (gone other_gone come other_come : List RecordPlace) (lost other_lost brought other_brought : List ℕ) (needs more : ℕ) (was now : Held) → HaveSame gone other_gone → HaveSame come other_come
    → HaveSame lost other_lost → HaveSame brought other_brought → needs ≤ more → MovesRecords gone come lost brought needs was now → MovesRecords other_gone other_come other_lost other_brought more was now

-- What moved in two steps moved.
abbrev pub MovesAddUp : Type 0
MovesAddUp = (gone between come : List RecordPlace) (lost left brought more : List ℕ) (needs then : ℕ) (was mid now : Held) → MovesRecords gone between lost brought needs was mid
    → MovesRecords between come left more then mid now → MovesRecords gone come (lost ++ left) (brought ++ more) (needs + then) was now

-- Records that are there and stay may be counted among those that move.
abbrev pub MovesBeside : Type 0
MovesBeside = (rest gone come : List RecordPlace) (lost brought : List ℕ) (needs : ℕ) (was now : Held) → ((place : RecordPlace) → Contains rest place → IsSome (record_at was place))
    → ((place : RecordPlace) → Contains gone place → Contains rest place → ⊥) → MovesRecords gone come lost brought needs was now → MovesRecords (rest ++ gone) (rest ++ come) lost brought needs was now

-- A piece that was put in the place of another moved a record.
abbrev pub UpdateMoves : Type 0
UpdateMoves = (old new : RecordPlace) (piece : Piece) (was now : Held) → UpdatesPiece old new piece was now → MovesRecords (old ∷ []) (new ∷ []) [] [] (piece_needs piece) was now

-- So did a piece that was taken away.
abbrev pub RemoveMoves : Type 0
RemoveMoves = (place : RecordPlace) (was now : Held) → RemovesPiece place was now → MovesRecords (place ∷ []) [] [] [] 0 was now

-- A list that was written, or taken away where no record named it, moved no record.
abbrev pub ContentMoves : Type 0
ContentMoves = (first : ℕ) (bytes : List ℕ) (was now : Held) → WritesList first bytes was now → MovesRecords [] [] [] (first ∷ []) (chain_count (length bytes)) was now

abbrev pub ContentLeaves : Type 0
ContentLeaves = (first : ℕ) (was now : Held) → IsNamedNowhere was first → FreesList first was now → MovesRecords [] [] (first ∷ []) [] 0 was now

-- Where a piece was taken away and then records came, one record went and several came.
abbrev pub OneWentSeveralCame : Type 0
OneWentSeveralCame = (place : RecordPlace) (places : List RecordPlace) (brought : List ℕ) (needs : ℕ) (was mid now : Held) → RemovesPiece place was mid → AddsRecords places brought needs mid now
    → MovesRecords (place ∷ []) places [] brought needs was now

-- Where records moved, each piece whose record isn't among those that went or changed stays, and so do the lists that its record names.
abbrev pub PiecesStayAround : Type 0
PiecesStayAround = (gone come : List RecordPlace) (lost brought : List ℕ) (needs : ℕ) (was now : Held) → IsTidy was → MovesRecords gone come lost brought needs was now
    → (place : RecordPlace) (piece : Piece) → HoldsPiece was place piece → (Contains gone place → ⊥)
    → (record_at now place ≡ record_at was place) × HoldsPiece now place piece × ((chain : ℕ) → NamesAny was place chain → now.lists chain ≡ was.lists chain)

-- Where records moved, a list that holds no record's proxies and isn't one that went stays so.
abbrev pub ContentsStayAround : Type 0
ContentsStayAround = (gone come : List RecordPlace) (lost brought : List ℕ) (needs : ℕ) (was now : Held) → IsTidy was → MovesRecords gone come lost brought needs was now
    → (first : ℕ) (bytes : List ℕ) → was.lists first ≡ Some bytes → IsNoProxies was first → (Contains lost first → ⊥) → (now.lists first ≡ Some bytes) × IsNoProxies now first

-- A piece that was added came as a record at its place, with the list that it names for its proxies.
abbrev pub PieceAddsRecord : Type 0
PieceAddsRecord = (place : RecordPlace) (piece : Piece) (was now : Held) → AddsPiece place piece was now → AddsRecords (place ∷ []) [] (piece_needs piece) was now

-- Records that came one after the other came at all these places.
abbrev pub RecordsAddUp : Type 0
RecordsAddUp = (places more : List RecordPlace) (brought then_brought : List ℕ) (needs then : ℕ) (was mid now : Held) → AddsRecords places brought needs was mid → AddsRecords more then_brought then mid now
    → AddsRecords (places ++ more) (brought ++ then_brought) (needs + then) was now

-- Where records came, each piece stays where it was.
abbrev pub PiecesStayBeside : Type 0
PiecesStayBeside = (places : List RecordPlace) (brought : List ℕ) (needs : ℕ) (was now : Held) (before : PieceMap was) (after : PieceMap now) → AddsRecords places brought needs was now
    → (place : RecordPlace) (piece : Piece) → before.piece_at place ≡ Some piece → after.piece_at place ≡ Some piece

-- The contents that the records of a layout name are those of its nodes.
abbrev pub NamedInLayout : Type 0
NamedInLayout = (held : Held) (pieces : PieceMap held) (row : Layout) → AreHeld (held_by pieces) row → (place : RecordPlace) (far : Far) → Contains (places_of row) place → NamesContent held place far
    → Contains (contents_of row) far.first
