-- Which pieces the records of a store hold. A piece's proxies stand in its record, or in a byte list that the record names. Pieces are as records say them: a far
-- content is the name of its list.
use Rattle.std.specs.Prelude.{◌≡◌, ◌⊎◌, ℕ, ◌+◌, ◌*◌, ◌≤◌, List, length, Option, None, Some, IsSome, Contains}
use Rattle.std.specs.Option.{MatchOption}
use Rattle.nx_records.specs.Words.{Held}
use Rattle.nx_records.specs.Changes.{WritesList, FreesList}
use Rattle.nx_piece.specs.declared.piece.Body.{Body}
use Rattle.nx_piece.specs.declared.piece.Far.{Far}
use Rattle.nx_piece.specs.declared.piece.Piece.{Piece}
use Rattle.nx_piece.specs.declared.piece.Stored.{Stored}
use Rattle.nx_piece.specs.declared.piece.Stored.TheVariants.{Inline, Chained}
use Rattle.nx_piece.specs.Gapped.{Gapped}
use Rattle.nx_piece.specs.Contents.{fars_in}
use Rattle.nx_piece.specs.Encoding.{encoding, proxies_bytes}
use Rattle.nx_piece.specs.Valid.{IsValid, HaveRoots, HaveNumbers, HasNumbers}
use Rattle.nx_layouts.specs.Layout.{RecordPlace, Stock}

-- the bytes of the record at a place
abbrev pub record_at : Held → RecordPlace → Option (List ℕ)
record_at held place = held.records place.page place.slot

-- the record at the place has the bytes of this valid piece
pub record IsStored (held : Held) (place : RecordPlace) (stored : Stored) : Type 0 where
  pub bytes : record_at held place ≡ Some (encoding stored)
  pub valid : IsValid stored
  pub numbers : HasNumbers stored

-- the record at the place holds the piece, with its proxies
abbrev pub HoldsInline : Held → RecordPlace → Piece → Type 0
HoldsInline held place piece = IsStored held place (Inline piece)

-- the record at the place holds the nodes of the piece, and names a list that holds the proxies
pub record HoldsChained (held : Held) (place : RecordPlace) (piece : Piece) : Type 0 where
  pub chain : ℕ
  pub stored : IsStored held place (Chained piece.body (length piece.proxies) chain)
  pub list : held.lists chain ≡ Some (proxies_bytes piece.proxies)
  pub rooted : HaveRoots piece.proxies
  pub numbers : HaveNumbers piece.proxies

abbrev pub HoldsPiece : Held → RecordPlace → Piece → Type 0
HoldsPiece held place piece = HoldsInline held place piece ⊎ HoldsChained held place piece

-- the record at the place names this list, for so many proxies
abbrev pub NamesList : Held → RecordPlace → (count chain : ℕ) → Type 0
NamesList held place count chain = (body : Body) × IsStored held place (Chained body count chain)

-- the list that the record at the place names, where it names one, is there
abbrev pub HasNamedList : Held → RecordPlace → Type 0
HasNamedList held place = (count chain : ℕ) → NamesList held place count chain → IsSome (held.lists chain)

-- ... and as long as its proxies need
abbrev pub HasItsList : Held → RecordPlace → Type 0
HasItsList held place = (count chain : ℕ) → NamesList held place count chain → (bytes : List ℕ) × (held.lists chain ≡ Some bytes) × (length bytes ≡ 8 * count)

-- the nodes of a record's piece
abbrev pub roots_stored : Stored → Gapped
roots_stored (Inline piece) = piece.body.roots
roots_stored (Chained body count chain) = body.roots

-- the record at the place has a node whose content is this list, of so many bytes
abbrev pub NamesContent : Held → RecordPlace → Far → Type 0
NamesContent held place far = (stored : Stored) × IsStored held place stored × Contains (fars_in (roots_stored stored)) far

-- the record at the place names this list, for its proxies or for a content
abbrev pub NamesAny : Held → RecordPlace → ℕ → Type 0
NamesAny held place first = ((count : ℕ) × NamesList held place count first) ⊎ ((far : Far) × (far.first ≡ first) × NamesContent held place far)

-- no record names the list
abbrev pub IsNamedNowhere : Held → ℕ → Type 0
IsNamedNowhere held first = (place : RecordPlace) → NamesAny held place first → ⊥

-- no record names the list for its proxies
abbrev pub IsNoProxies : Held → ℕ → Type 0
IsNoProxies held first = (place : RecordPlace) (count : ℕ) → NamesList held place count first → ⊥

-- the list is there, as long as the content
abbrev pub HasContent : Held → Far → Type 0
HasContent held far = (bytes : List ℕ) × (held.lists far.first ≡ Some bytes) × (length bytes ≡ far.length)

-- each far content of these nodes may be named: its list is there, as long as it is, and holds no record's proxies
abbrev pub MayName : Held → Gapped → Type 0
MayName held roots = (far : Far) → Contains (fars_in roots) far → HasContent held far × IsNoProxies held far.first

-- Each list that a record names for its proxies is there, as long as these need, and no two records name one. Each that it names for a content is there, as long as
-- that is, and holds no record's proxies.
pub record IsTidy (held : Held) : Type 0 where
  pub there : (place : RecordPlace) → HasItsList held place
  pub once : (place other : RecordPlace) (count more chain : ℕ) → NamesList held place count chain → NamesList held other more chain → place ≡ other
  pub contents : (place : RecordPlace) (far : Far) → NamesContent held place far → HasContent held far
  pub apart : (place : RecordPlace) (far : Far) → NamesContent held place far → IsNoProxies held far.first

-- all records but those at these places stay
abbrev pub SameBeside : (old new : Option RecordPlace) → Held → Held → Type 0
SameBeside old new was now =
    (place : RecordPlace) → (Some place ≡ old → ⊥) → (Some place ≡ new → ⊥) → record_at now place ≡ record_at was place

-- no record at such a place names the list
abbrev pub NamesNot : Held → Option RecordPlace → ℕ → Type 0
NamesNot held place chain = (at : RecordPlace) (count : ℕ) → Some at ≡ place → NamesList held at count chain → ⊥

-- A change of one record: that at the first place goes, and one comes at the second, where there are such. All other records stay, and so do all lists but the one
-- that the old record named and the one that the new record names. At most so many fewer pages are free.
pub record ChangesOneRecord (old new : Option RecordPlace) (needs : ℕ) (was now : Held) : Type 0 where
  pub beside : SameBeside old new was now
  pub went : (place : RecordPlace) → Some place ≡ old → (Some place ≡ new → ⊥) → record_at now place ≡ None
  pub lists : (chain : ℕ) → NamesNot was old chain → NamesNot now new chain → now.lists chain ≡ was.lists chain
  pub freed : (place : RecordPlace) (count chain : ℕ) → Some place ≡ old → NamesList was place count chain → NamesNot now new chain → now.lists chain ≡ None
  pub fresh : (place : RecordPlace) (count chain : ℕ) → Some place ≡ new → NamesList now place count chain → NamesNot was old chain → was.lists chain ≡ None
  pub settings : now.settings ≡ was.settings
  pub catalog : now.catalog ≡ was.catalog
  pub free : was.free ≤ now.free + needs

-- The record at a place holds one piece at most.
abbrev pub OnePiece : Type 0
OnePiece = (held : Held) (place : RecordPlace) (piece other : Piece) → HoldsPiece held place piece → HoldsPiece held place other → piece ≡ other

-- What changes neither a record nor the list that it names leaves its piece.
abbrev pub PiecesStay : Type 0
PiecesStay = (was now : Held) (place : RecordPlace) (piece : Piece) → record_at now place ≡ record_at was place
    → ((count chain : ℕ) → NamesList was place count chain → now.lists chain ≡ was.lists chain) → HoldsPiece was place piece → HoldsPiece now place piece

-- A change of one record leaves the pieces of all others, and brings none to another place.
abbrev pub OtherPiecesStay : Type 0
OtherPiecesStay = (old new : Option RecordPlace) (needs : ℕ) (was now : Held) → IsTidy was → ChangesOneRecord old new needs was now
    → (place : RecordPlace) → (Some place ≡ old → ⊥) → (Some place ≡ new → ⊥)
    → (piece : Piece) → (HoldsPiece was place piece → HoldsPiece now place piece) × (HoldsPiece now place piece → HoldsPiece was place piece)

-- where a record comes, it holds a piece
abbrev pub ComesPiece : Held → Option RecordPlace → Type 0
ComesPiece now new = (place : RecordPlace) → Some place ≡ new → (piece : Piece) × HoldsPiece now place piece

-- where a record comes, its contents might be named before
abbrev pub MayCome : (was now : Held) → Option RecordPlace → Type 0
MayCome was now new = (place : RecordPlace) → Some place ≡ new → (stored : Stored) → IsStored now place stored → MayName was (roots_stored stored)

-- Lists stay in order where one record changes, and the one that comes holds a piece whose contents might be named before.
abbrev pub TidyStays : Type 0
TidyStays = (old new : Option RecordPlace) (needs : ℕ) (was now : Held) → IsTidy was → ChangesOneRecord old new needs was now → ComesPiece now new → MayCome was now new → IsTidy now

-- A change of one record leaves each list that holds no record's proxies.
abbrev pub ContentsStay : Type 0
ContentsStay = (old new : Option RecordPlace) (needs : ℕ) (was now : Held) → IsTidy was → ChangesOneRecord old new needs was now → (first : ℕ) (bytes : List ℕ) → was.lists first ≡ Some bytes
    → IsNoProxies was first → (now.lists first ≡ Some bytes) × IsNoProxies now first

-- Lists stay in order where one comes, which no record names then, and where one goes that none names.
abbrev pub ContentComesTidy : Type 0
ContentComesTidy = (first : ℕ) (bytes : List ℕ) (was now : Held) → IsTidy was → WritesList first bytes was now → IsTidy now × IsNamedNowhere now first

abbrev pub ContentGoesTidy : Type 0
ContentGoesTidy = (first : ℕ) (was now : Held) → IsTidy was → IsNamedNowhere was first → FreesList first was now → IsTidy now

-- no piece is held by the record at the place, or no record is there
abbrev pub HoldsNone : Held → RecordPlace → Type 0
HoldsNone held place = (piece : Piece) → HoldsPiece held place piece → ⊥

-- the piece at each place, and none where no piece is held
pub record PieceMap (held : Held) : Type 0 where
  pub piece_at : RecordPlace → Option Piece
  pub are : (place : RecordPlace) → MatchOption (piece_at place) (HoldsNone held place) (λ piece. HoldsPiece held place piece)

-- The pieces of a store are a map from places.
abbrev pub HavePieceMap : Type 0
HavePieceMap = (held : Held) → PieceMap held

-- what a map of pieces has, with the lists beside it
abbrev pub held_by : {held : Held} → PieceMap held → Stock
held_by {held} pieces = record { piece_at = pieces.piece_at; list_at = held.lists; most = (held.settings).k }
