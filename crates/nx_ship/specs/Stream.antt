-- A stream of groups: what it says, by its bytes.
use Rattle.std.specs.Prelude.{◌≡◌, ◌⊎◌, ℕ, ◌+◌, ◌*◌, ◌<◌, ◌≤◌, true, List, [], ◌∷◌, ◌++◌, length, drop}
use Rattle.std.specs.List.{AllByRecursion}
use Rattle.byteorder.specs.Endian.{big_number}
use Rattle.nx_numbers.specs.Sizes.{entry_size, most_pages}
use Rattle.nx_host.specs.Disk.{AreBytes}
use Rattle.nx_replay.specs.Log.{Entry, Group, entries_in, rise, group_bytes, IsWhole}
use Rattle.nx_holdings.specs.declared.header.Header.{Header}
use Rattle.nx_holdings.specs.Header.{IsHeader}

-- how many pages the group says that it has with which these bytes begin
abbrev pub count_in : List ℕ → ℕ
count_in bytes = big_number 4 (drop 8 bytes)

-- the bytes of a group with so many pages
abbrev pub size_with : ℕ → ℕ
size_with count = 12 + entry_size * count

-- the group with which these bytes begin
abbrev pub group_in : List ℕ → Group
group_in bytes = record { number = big_number 8 bytes; entries = entries_in (count_in bytes) (drop 12 bytes) }

-- the first page is page 0, and a header with this number
abbrev pub BeginsWithHeader : ℕ → List Entry → Type 0
BeginsWithHeader number [] = ⊥
BeginsWithHeader number (e ∷ es) = (e.page ≡ 0) × ((h : Header) × IsHeader e.bytes h × (h.number ≡ number))

-- A good group stands at the beginning of these bytes.
pub record IsGood (bytes : List ℕ) : Type 0 where
  pub some : 1 ≤ count_in bytes
  pub few : count_in bytes ≤ most_pages
  pub whole : size_with (count_in bytes) ≤ length bytes
  pub rises : rise 0 (entries_in (count_in bytes) (drop 12 bytes)) ≡ true
  pub header : BeginsWithHeader (big_number 8 bytes) (entries_in (count_in bytes) (drop 12 bytes))

-- Only a part of a group stands there: too little for its head, or for as many pages as its head says.
abbrev pub IsPartOfGroup : List ℕ → Type 0
IsPartOfGroup bytes = (length bytes < size_with 0) ⊎ ((count_in bytes ≤ most_pages) × (length bytes < size_with (count_in bytes)))

-- The bytes begin with these good groups, and this is what stands behind them.
abbrev pub Begins : List Group → List ℕ → List ℕ → Type 0
Begins [] bytes rest = rest ≡ bytes
Begins (g ∷ gs) bytes rest = IsGood bytes × (g ≡ group_in bytes) × Begins gs (drop (size_with (count_in bytes)) bytes) rest

-- These are all groups up to the first place with no good one. Either nothing stands there, or what does is no group.
pub record IsStream (bytes : List ℕ) (groups : List Group) (rest : List ℕ) : Type 0 where
  pub begins : Begins groups bytes rest
  pub ends : IsGood rest → ⊥

-- the bytes that groups take
abbrev pub stream_length : List Group → ℕ
stream_length [] = 0
stream_length (g ∷ gs) = size_with (length g.entries) + stream_length gs

-- the stream of groups
abbrev pub stream_of : List Group → List ℕ
stream_of [] = []
stream_of (g ∷ gs) = group_bytes g ++ stream_of gs

-- a group that may be sent
pub record MaySend (g : Group) : Type 0 where
  pub whole : IsWhole g
  pub header : BeginsWithHeader g.number g.entries

-- Bytes say one row of groups alone, and one rest.
abbrev pub OneStream : Type 0
OneStream = (bytes : List ℕ) (gs hs : List Group) (rest tail : List ℕ) → IsStream bytes gs rest → IsStream bytes hs tail → (gs ≡ hs) × (rest ≡ tail)

-- Any bytes say some row of groups.
abbrev pub SomeStream : Type 0
SomeStream = (bytes : List ℕ) → (gs : List Group) × (rest : List ℕ) × IsStream bytes gs rest

-- Its groups and its rest are as long as it together.
abbrev pub HasLength : Type 0
HasLength = (bytes : List ℕ) (gs : List Group) (rest : List ℕ) → IsStream bytes gs rest → length bytes ≡ stream_length gs + length rest

-- What is sent is read back: the stream of groups, with nothing or no good group behind it, says these groups.
abbrev pub ReadsBack : Type 0
ReadsBack = (gs : List Group) (rest : List ℕ) → AllByRecursion MaySend gs → (IsGood rest → ⊥) → IsStream (stream_of gs ++ rest) gs rest

-- Bytes are the stream of the groups that they say, each of which may be sent, and the rest.
abbrev pub IsSent : Type 0
IsSent = (bytes : List ℕ) (gs : List Group) (rest : List ℕ) → AreBytes bytes → IsStream bytes gs rest → (bytes ≡ stream_of gs ++ rest) × AllByRecursion MaySend gs

-- The bytes of such groups are a stream to its end.
abbrev pub StreamEndsWell : Type 0
StreamEndsWell = (gs : List Group) → AllByRecursion MaySend gs → IsStream (stream_of gs) gs []
