-- What a snapshot has of a store, and why none is taken.
use Rattle.std.specs.Prelude.{◌≡◌, ℕ, ◌+◌, ◌*◌, ◌/◌, ◌<◌, ◌≤◌, max, None, Some, length}
use Rattle.nx_host.specs.Disk.{Image, Rose}
use Rattle.nx_host.specs.declared.disk.Disk.{Ghosts}
use Rattle.nx_host.specs.Still.{IsSettled}
use Rattle.nx_numbers.specs.Sizes.{entry_size}
use Rattle.nx_holdings.specs.declared.header.Header.{Header}
use Rattle.nx_holdings.specs.Header.{header_bytes, IsInRange}
use Rattle.nx_records.specs.Records.{HasHeader}
use Rattle.nx_records.specs.Words.{Pages, replay}
use Rattle.nx_wal.specs.Wal.{IsInStep, IsPageCount}
use Rattle.nx_wal.specs.declared.wal.Wal.{Wal}
use Rattle.nx_wal.specs.declared.error.WalError.{WalError}
use Rattle.nx_wal.specs.declared.error.WalError.TheVariants as wal
use Rattle.nx_state.specs.State.{State}
use Rattle.nx_state.specs.Stands.{Recovers}
use Rattle.nx_ask.specs.PagesAlone.{pages_alone}
use Rattle.nx_ask.specs.declared.snapshot.Snapshot.{Snapshot}
use Rattle.nx_ask.specs.declared.error.AskError.{AskError}
use Rattle.nx_ask.specs.declared.error.AskError.TheVariants as error

-- the image of a snapshot: its pages, and no log
abbrev pub snapshot_image : Snapshot → Image
snapshot_image snapshot = pages_alone snapshot.bytes.items

-- Page 0 is a header, by which there are so many pages.
pub record SaysPages (number : ℕ) (pages : Pages) : Type 0 where
  pub head : Header
  pub here : pages 0 ≡ Some (header_bytes head)
  pub range : IsInRange head
  pub number_is : head.pages ≡ number

-- A snapshot has the pages of the image below the header's number, each as it is there, and no others.
pub record HasPagesOf (snapshot : Snapshot) (was : Image) : Type 0 where
  pub number : ℕ
  pub said : SaysPages number (replay was)
  pub below : (p : ℕ) → p < number → replay (snapshot_image snapshot) p ≡ replay was p
  pub none_from : (p : ℕ) → number ≤ p → replay (snapshot_image snapshot) p ≡ None

-- the reads of opening a log: three for each page with its number that the area of the log has room for, three more for the log's end, and the mark of page 0
abbrev pub log_reads : Image → ℕ
log_reads was = 3 * (length was.log / entry_size + 1) + 1

-- From a count of reads to another no more came than taking a snapshot of an image asks for: those of opening its log, and one for each page below the header's number, none past the
-- greatest page that is there.
pub record ReadsSnapshot (was : Image) (before after : ℕ) : Type 0 where
  pub below : (number : ℕ) → SaysPages number (replay was) → after ≤ before + log_reads was + number
  pub there : (count : ℕ) → IsPageCount count (replay was) → after ≤ before + log_reads was + count

-- ... but for opening its log; page 0 is read in any case
pub record ReadsPages (was : Image) (before after : ℕ) : Type 0 where
  pub below : (number : ℕ) → SaysPages number (replay was) → after ≤ before + number
  pub there : (count : ℕ) → IsPageCount count (replay was) → after ≤ before + max 1 count

-- the image stands for no state
abbrev pub HasNoState : Image → Type 0
HasNoState was = (state : State) → Recovers was (Some state) → ⊥

-- Why no snapshot is taken of a disk.
abbrev pub NoSnapshot : {D : Type 0} → Ghosts D → AskError → D → D → Type 0
NoSnapshot d error.NotAStore before after = (was : Image) → IsSettled d before was → HasHeader was → ⊥
NoSnapshot d error.Disk before after = Rose (d.faults before) (d.faults after)
NoSnapshot d (error.Damaged page) before after = (was : Image) → IsSettled d before was → HasHeader was × HasNoState was
NoSnapshot d error.Memory before after = Unit {0}

-- ... whose log was opened
abbrev pub NoSnapshotOf : {D : Type 0} → Ghosts D → AskError → Wal → D → D → Type 0
NoSnapshotOf d error.NotAStore opened before after = ⊥
NoSnapshotOf d error.Disk opened before after = Rose (d.faults before) (d.faults after)
NoSnapshotOf d (error.Damaged page) opened before after = (was : Image) → IsInStep d opened before was → HasNoState was
NoSnapshotOf d error.Memory opened before after = Unit {0}

-- what is answered where the log isn't opened
abbrev pub opening_error : WalError → AskError
opening_error wal.NotAStore = error.NotAStore
opening_error wal.Memory = error.Memory
opening_error _ = error.Disk
