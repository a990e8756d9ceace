-- What is read of a log.
use Rattle.std.specs.Prelude.{ℕ, ◌+◌, ◌*◌, ◌^◌, ◌≡◌, ◌<◌, ◌≤◌, ◌==◌, Bool, true, false, List, ◌++◌, length, map, take, drop, slice_index, Option, Some, None}
use Rattle.byteorder.specs.Endian.{big_number}
use Rattle.nx_numbers.specs.Sizes.{page_size, entry_size, most_pages}
use Rattle.nx_host.specs.Disk.{Rose}
use Rattle.nx_replay.specs.Log.{Entry, Group, entry_bytes, groups, groups_behind, end_of, group_page_count, group_size, is_group, IsLogEnd}
use Rattle.nx_wal.specs.declared.reading.Head.{Head}
use Rattle.nx_wal.specs.declared.reading.End.{End}
use Rattle.nx_wal.specs.declared.reading.GroupHead.{GroupHead}
use Rattle.nx_wal.specs.declared.error.WalError.{WalError}
use Rattle.nx_wal.specs.declared.error.WalError.TheVariants as error
use Rattle.nx_wal.specs.Places.{Places, LeadsTo, AreWithin, starts_from}

-- the numbers of pages
abbrev pub page_numbers : List Entry → List ℕ
page_numbers es = map (λ e. e.page) es

-- the bytes of a log that groups may use
abbrev pub usable : List ℕ → List ℕ
usable log = take (2 ^ 63) log

-- the prefix has so many bytes of these, and they are all where the prefix had room for more
pub record FillsPrefix (n room : ℕ) (prefix bytes : List ℕ) : Type 0 where
  pub count : n ≡ length (take room bytes)
  pub same : take n prefix ≡ take room bytes

-- a group's gate, open, and its count, and there is room for so many pages and a gate
pub record IsHeadOf (count : ℕ) (bytes : List ℕ) : Type 0 where
  pub gate : slice_index bytes 0 ≡ 1
  pub counted : group_page_count bytes ≡ count
  pub few : count ≤ most_pages
  pub whole : group_size count < length bytes

-- what the head says of a log at the offset
pub record IsHead (at : ℕ) (head : Head) (log : List ℕ) : Type 0 where
  pub closed : head.shut ≡ true → (at < length log) × ((slice_index log at == 1) ≡ false)
  pub opened : head.shut ≡ false → at < length log → slice_index log at ≡ 1
  pub none : head.count ≡ 0 → is_group (drop at (usable log)) ≡ false
  pub some : 0 < head.count → IsHeadOf head.count (drop at (usable log))

-- the page of a group that stands at the beginning, behind its number
abbrev pub page_at : List ℕ → Entry
page_at bytes = record { page = big_number 4 bytes; bytes = take page_size (drop 4 bytes) }

-- The log was read up to an offset.
pub record IsLogReadTo (places : Places) (starts : List ℕ) (at : ℕ) (log : List ℕ) : Type 0 where
  pub prefix : List Group
  pub split : groups log ≡ prefix ++ groups_behind 0 (drop at (usable log))
  pub here : at ≡ end_of prefix
  pub leads : LeadsTo prefix places log
  pub begun : starts ≡ starts_from 0 prefix

-- The log was read whole.
pub record IsRead (places : Places) (starts : List ℕ) (end : End) (log : List ℕ) : Type 0 where
  pub at : IsLogEnd end.at end.shut log
  pub leads : LeadsTo (groups log) places log
  pub within : AreWithin end.at places
  pub begun : starts ≡ starts_from 0 (groups log)

-- A group stands at the offset, as it may in a log.
pub record StandsAt (at : ℕ) (log : List ℕ) : Type 0 where
  pub group : is_group (drop at (usable log)) ≡ true

-- The number of the group, and how many pages it has.
pub record IsHeadFor (group : Group) (head : GroupHead) : Type 0 where
  pub number : head.number ≡ group.number
  pub count : head.count ≡ length group.entries

-- The bytes, with room for so many, are those of the group's pages from the one with this index on, as they stand in a log.
abbrev pub ArePagesOf : Group → ℕ → ℕ → List ℕ → Type 0
ArePagesOf group first room bytes =
    (count : ℕ) → room ≡ entry_size * count → first + count ≤ length group.entries → bytes ≡ entry_bytes (take count (drop first group.entries))

-- Why reading gave up: a call failed, or for want of memory.
abbrev pub FailsBy : WalError → ℕ → ℕ → Type 0
FailsBy error.Disk before now = Rose before now
FailsBy error.Memory before now = Unit {0}
FailsBy error.Exists before now = ⊥
FailsBy error.NotAStore before now = ⊥
FailsBy error.Ended before now = ⊥

-- Why no log was opened: besides, the disk has no store.
abbrev pub IsNotOpened : WalError → ℕ → ℕ → Type 0 → Type 0
IsNotOpened error.Disk before now NoStore = Rose before now
IsNotOpened error.Memory before now NoStore = Unit {0}
IsNotOpened error.NotAStore before now NoStore = NoStore
IsNotOpened error.Exists before now NoStore = ⊥
IsNotOpened error.Ended before now NoStore = ⊥

-- what a page that was asked for is
abbrev pub page_found : Bool → List ℕ → Option (List ℕ)
page_found true bytes = Some bytes
page_found false bytes = None
