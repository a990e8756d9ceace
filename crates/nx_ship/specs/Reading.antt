-- What a reader holds of a stream that comes in pieces.
use Rattle.std.specs.Prelude.{◌≡◌, ℕ, ◌+◌, ◌<◌, ◌≤◌, true, List, [], ◌∷◌, ◌++◌, length, take, drop}
use Rattle.byteorder.specs.Endian.{big_number}
use Rattle.nx_numbers.specs.Sizes.{page_size, entry_size, most_pages}
use Rattle.nx_replay.specs.Log.{Entry, Group, entries_in, rise}
use Rattle.nx_ship.specs.Stream.{count_in, size_with, BeginsWithHeader, IsGood, Begins}
use Rattle.nx_ship.specs.declared.reader.Reader.{Reader}
use Rattle.nx_ship.specs.declared.reader.Fed.{Fed}
use Rattle.nx_ship.specs.declared.reader.Fed.TheVariants.{More, Page, Last, NotGood}

-- what was taken of a head, or else of a page with its number
abbrev pub unit_of : Reader → List ℕ
unit_of r = r.front.items ++ take r.filled r.page.bytes

-- the page that the reader has, under this number
abbrev pub page_of : ℕ → Reader → Entry
page_of number r = record { page = number; bytes = r.page.bytes }

-- These bytes were taken of a head, or of a page with its number.
pub record Grows (x : List ℕ) (old new : Reader) : Type 0 where
  pub unit : unit_of new ≡ unit_of old ++ x
  pub number : new.number ≡ old.number
  pub count : new.count ≡ old.count
  pub taken : new.taken ≡ old.taken
  pub least : new.least ≡ old.least

-- the least number that a page behind these may have
abbrev pub least_behind : ℕ → List Entry → ℕ
least_behind least [] = least
least_behind least (e ∷ es) = least_behind (e.page + 1) es

-- The pages rise from page 0 on, which is a header with this number.
pub record AreUnderWay (number : ℕ) (es : List Entry) : Type 0 where
  pub rises : rise 0 es ≡ true
  pub header : BeginsWithHeader number es

-- The head of a group was taken, these pages of it, and what `unit_of` has.
pub record HoldsPages (r : Reader) (held : List ℕ) (es : List Entry) : Type 0 where
  pub number : big_number 8 held ≡ r.number
  pub count : count_in held ≡ r.count
  pub few : r.count ≤ most_pages
  pub many : length es ≡ r.taken
  pub long : length held ≡ size_with r.taken + length (unit_of r)
  pub pages : entries_in r.taken (drop 12 held) ≡ es
  pub unit : drop (size_with r.taken) held ≡ unit_of r
  pub rises : rise 0 es ≡ true
  pub least : r.least ≡ least_behind 0 es
  pub header : 0 < length es → BeginsWithHeader r.number es

-- What `unit_of` has of a head was taken.
pub record HoldsHead (r : Reader) (held : List ℕ) (es : List Entry) : Type 0 where
  pub same : held ≡ unit_of r
  pub none : es ≡ []

-- These bytes were taken of the group that is under way: a part of its head; or its head, these pages, which are fewer than it has, and a part of the next.
pub record HoldsPart (r : Reader) (held : List ℕ) (es : List Entry) : Type 0 where
  pub head : r.count ≡ 0 → HoldsHead r held es
  pub short_head : r.count ≡ 0 → length (unit_of r) < 12
  pub pages : 0 < r.count → HoldsPages r held es
  pub some_left : 0 < r.count → r.taken < r.count
  pub short_page : 0 < r.count → length (unit_of r) < entry_size

-- These bytes of a stream were taken. They begin with these groups, and have these pages of the one that is under way.
pub record HasFed (r : Reader) (bytes : List ℕ) (groups : List Group) (es : List Entry) : Type 0 where
  pub held : List ℕ
  pub begins : Begins groups bytes held
  pub holds : HoldsPart r held es

-- whatever comes behind these bytes, they begin with these groups, and what is left, which is some bytes, begins with no good one
abbrev pub IsSpoilt : List ℕ → List Group → Type 0
IsSpoilt bytes groups = (held : List ℕ) × (0 < length held) × Begins groups bytes held × ((more : List ℕ) → IsGood (held ++ more) → ⊥)

-- The first bytes of a piece were taken, and no page came of them.
pub record TakesMore (n : ℕ) (piece : List ℕ) (old new : Reader) (bytes : List ℕ) (groups : List Group) (es : List Entry) : Type 0 where
  pub some : 0 < length piece → 0 < n
  pub read : HasFed new (bytes ++ take n piece) groups es
  pub number_stays : 0 < length es → new.number ≡ old.number

-- ... or a page of the group under way, and more are missing;
pub record TakesNextPage (n : ℕ) (page : Entry) (piece : List ℕ) (old new : Reader) (bytes : List ℕ) (groups : List Group) (es : List Entry) : Type 0 where
  pub some : 0 < length piece → 0 < n
  pub read : HasFed new (bytes ++ take n piece) groups (es ++ page ∷ [])
  pub under_way : AreUnderWay new.number (es ++ page ∷ [])
  pub number_stays : new.number ≡ old.number

-- ... or its last page.
pub record TakesLastPage (n : ℕ) (page : Entry) (piece : List ℕ) (old new : Reader) (bytes : List ℕ) (groups : List Group) (es : List Entry) : Type 0 where
  pub some : 0 < length piece → 0 < n
  pub read : HasFed new (bytes ++ take n piece) (groups ++ record { number = new.number; entries = es ++ page ∷ [] } ∷ []) []
  pub under_way : AreUnderWay new.number (es ++ page ∷ [])
  pub number_stays : new.number ≡ old.number
  pub many : length (es ++ page ∷ []) ≡ new.taken
  pub few : new.taken ≤ most_pages

-- What came of a piece of a stream.
abbrev pub Feeds : Fed → List ℕ → Reader → Reader → Type 0
Feeds (More n) piece old new = (n ≤ length piece) × ((bytes : List ℕ) (groups : List Group) (es : List Entry) → HasFed old bytes groups es → TakesMore n piece old new bytes groups es)
Feeds (Page n number) piece old new = (n ≤ length piece) × (number < most_pages) × ((bytes : List ℕ) (groups : List Group) (es : List Entry) → HasFed old bytes groups es → TakesNextPage n (page_of number new) piece old new bytes groups es)
Feeds (Last n number) piece old new = (n ≤ length piece) × (number < most_pages) × ((bytes : List ℕ) (groups : List Group) (es : List Entry) → HasFed old bytes groups es → TakesLastPage n (page_of number new) piece old new bytes groups es)
Feeds (NotGood n) piece old new = (n ≤ length piece) × ((bytes : List ℕ) (groups : List Group) (es : List Entry) → HasFed old bytes groups es → IsSpoilt (bytes ++ take n piece) groups)

-- The head that is whole was taken.
pub record TakesHead (old new : Reader) : Type 0 where
  pub number : new.number ≡ big_number 8 (unit_of old)
  pub count : new.count ≡ count_in (unit_of old)
  pub some : 1 ≤ new.count
  pub few : new.count ≤ most_pages
  pub unit : unit_of new ≡ []
  pub taken : new.taken ≡ 0
  pub least : new.least ≡ 0

-- the page that these bytes are
abbrev pub page_in : List ℕ → Entry
page_in unit = record { page = big_number 4 unit; bytes = take page_size (drop 4 unit) }

-- The page may stand there.
pub record MayFollow (r : Reader) (e : Entry) : Type 0 where
  pub least : r.least ≤ e.page
  pub low : e.page < most_pages
  pub header : r.taken ≡ 0 → BeginsWithHeader r.number (e ∷ [])

-- The page that is whole was taken.
pub record TakesPage (page : Entry) (old new : Reader) : Type 0 where
  pub is : page ≡ page_in (unit_of old)
  pub next : MayFollow old page
  pub taken : new.taken ≡ old.taken + 1
  pub least : new.least ≡ page.page + 1
  pub unit : unit_of new ≡ []
  pub number : new.number ≡ old.number
  pub count : new.count ≡ old.count
