-- The groups of a log, and the pages that an image stands for.
use Rattle.std.specs.Prelude.{ℕ, zero, suc, ◌+◌, ◌*◌, ◌^◌, ◌≡◌, ◌<◌, ◌≤◌, false, ◌==◌, nat_le, nat_lt, Bool, true, ◌&&◌, if◌then◌else◌, List, [], ◌∷◌, ◌++◌, length, take, drop, slice_index, Option, Some, None, IsSome}
use Rattle.std.specs.List.{AllByRecursion}
use Rattle.std.specs.Option.{option_or}
use Rattle.byteorder.specs.Endian.{big_number, big_bytes}
use Rattle.nx_numbers.specs.Sizes.{page_size, entry_size, most_pages}
use Rattle.nx_host.specs.Disk.{Image}

-- pages by their numbers
abbrev pub Pages : Type 0
Pages = ℕ → Option (List ℕ)

-- a page of a group: its number and its bytes
pub record Entry : Type 0 where
  pub page : ℕ
  pub bytes : List ℕ

-- a group of a log: its number and its pages
pub record Group : Type 0 where
  pub number : ℕ
  pub entries : List Entry

-- so many pages of a group, from its bytes
abbrev pub entries_in : ℕ → List ℕ → List Entry
entries_in zero bytes = []
entries_in (suc n) bytes = record { page = big_number 4 bytes; bytes = take page_size (drop 4 bytes) } ∷ entries_in n (drop entry_size bytes)

-- the numbers rise strictly, and none is below the least or a page too far
abbrev pub rise : ℕ → List Entry → Bool
rise least [] = true
rise least (e ∷ es) = nat_le least e.page && nat_lt e.page most_pages && rise (e.page + 1) es

unfoldable pub group_page_count : List ℕ → ℕ
group_page_count bytes = big_number 4 (drop 9 bytes)

-- the bytes from a gate up to the next one
abbrev pub group_size : ℕ → ℕ
group_size count = 13 + entry_size * count

abbrev pub group_of : List ℕ → Group
group_of bytes = record { number = big_number 8 (drop 1 bytes); entries = entries_in (group_page_count bytes) (drop 13 bytes) }

-- an open group stands at the beginning, with the next gate behind it
abbrev pub is_group : List ℕ → Bool
is_group bytes =
    (slice_index bytes 0 == 1) && (nat_le 1 (group_page_count bytes) && (nat_le (group_page_count bytes) most_pages && (nat_lt (group_size (group_page_count bytes)) (length bytes) && rise 0 (group_of bytes).entries)))

-- the groups behind so many bytes, up to the first place with none
unfoldable pub groups_behind : ℕ → List ℕ → List Group
groups_behind skip [] = []
groups_behind (suc n) (b ∷ bs) = groups_behind n bs
groups_behind zero (b ∷ bs) = if is_group (b ∷ bs) then group_of (b ∷ bs) ∷ groups_behind (12 + entry_size * group_page_count (b ∷ bs)) bs else []

-- the groups of a log below an offset
abbrev pub groups_to : ℕ → List ℕ → List Group
groups_to limit log = groups_behind 0 (take limit log)

-- the groups of a log; a group ends below 2^63
abbrev pub groups : List ℕ → List Group
groups log = groups_to (2 ^ 63) log

-- where the log ends
abbrev pub end_of : List Group → ℕ
end_of [] = 0
end_of (g ∷ gs) = group_size (length g.entries) + end_of gs

-- pages laid over others
abbrev pub over : Pages → Pages → Pages
over top base p = option_or (top p) (base p)

-- the pages of a group
abbrev pub entry_pages : List Entry → Pages
entry_pages [] p = None
entry_pages (e ∷ es) p = if p == e.page then Some e.bytes else entry_pages es p

-- the pages that groups hold, the later ones over the earlier
unfoldable pub logged : List Group → Pages
logged [] = λ p. None
logged (g ∷ gs) = over (logged gs) (entry_pages g.entries)

-- the whole pages of the pages area
abbrev pub pages_of : List ℕ → Pages
pages_of area p = if nat_lt p most_pages && nat_le (page_size * p + page_size) (length area) then Some (take page_size (drop (page_size * p) area)) else None

abbrev pub replay : Image → Pages
replay image = over (logged (groups image.log)) (pages_of image.pages)

-- the eight bytes that a store begins with
abbrev pub mark : List ℕ
mark = 78 ∷ 65 ∷ 84 ∷ 73 ∷ 88 ∷ 83 ∷ 84 ∷ 49 ∷ []

-- page 0 is there and begins with them
abbrev pub HasMark : Pages → Type 0
HasMark pages = (bytes : List ℕ) × (pages 0 ≡ Some bytes) × (take 8 bytes ≡ mark)

abbrev pub entry_bytes : List Entry → List ℕ
entry_bytes [] = []
entry_bytes (e ∷ es) = big_bytes 4 e.page ++ (e.bytes ++ entry_bytes es)

-- the bytes of a group behind its gate, up to the next one
unfoldable pub group_bytes : Group → List ℕ
group_bytes g = big_bytes 8 g.number ++ (big_bytes 4 (length g.entries) ++ entry_bytes g.entries)

-- each page is whole, and has a number that may be
pub record IsEntry (e : Entry) : Type 0 where
  pub long : length e.bytes ≡ page_size
  pub low : e.page < most_pages

-- a group that can be written
pub record IsWhole (g : Group) : Type 0 where
  pub number : g.number < 2 ^ 64
  pub some : 1 ≤ length g.entries
  pub few : length g.entries ≤ most_pages
  pub rises : rise 0 g.entries ≡ true
  pub entries : AllByRecursion IsEntry g.entries

-- The log ends here. The byte there is closed, or it isn't there, or it is an open gate with no group behind it.
pub record IsLogEnd (end : ℕ) (shut : Bool) (log : List ℕ) : Type 0 where
  pub here : end ≡ end_of (groups log)
  pub closed : shut ≡ true → (end < length log) × ((slice_index log end == 1) ≡ false)
  pub opened : shut ≡ false → end < length log → slice_index log end ≡ 1

-- the same pages area, and the groups of a log with one more
pub record HasGroup (g : Group) (was now : Image) : Type 0 where
  pub area : now.pages ≡ was.pages
  pub log : groups now.log ≡ groups was.log ++ g ∷ []

-- the same pages area, and the same groups of the log
pub record HasSame (was now : Image) : Type 0 where
  pub area : now.pages ≡ was.pages
  pub log : groups now.log ≡ groups was.log

-- no page is missing below a page that is there
abbrev pub IsDense : Pages → Type 0
IsDense pages = (p q : ℕ) → p < q → IsSome (pages q) → IsSome (pages p)

-- each page that is there stays, and none is added where none is missing below the greatest
pub record Stays (was now : Pages) : Type 0 where
  pub each : (p : ℕ) → IsSome (was p) → now p ≡ was p
  pub dense : IsDense was → now ≡ was

-- what a checkpoint's writes of pages may leave: the log, and each whole page that the log doesn't hold
pub record IsPartlyMoved (was now : Image) : Type 0 where
  pub log : now.log ≡ was.log
  pub no_shorter : length was.pages ≤ length now.pages
  pub kept : (p : ℕ) → page_size * p + page_size ≤ length was.pages → logged (groups was.log) p ≡ None → take page_size (drop (page_size * p) now.pages) ≡ take page_size (drop (page_size * p) was.pages)
  pub no_longer : (p : ℕ) → length was.pages < page_size * p + page_size → page_size * p + page_size ≤ length now.pages → (q : ℕ) × (p ≤ q) × IsSome (logged (groups was.log) q)
