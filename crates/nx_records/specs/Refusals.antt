-- Why a call of records gives up, and what it leaves.
use Rattle.std.specs.Prelude.{◌≡◌, ◌⊎◌, ◌<◌, ℕ, true, false, Some, None, IsSome}
use Rattle.nx_host.specs.Disk.{Image, Rose}
use Rattle.nx_host.specs.declared.disk.Disk.{Ghosts}
use Rattle.nx_host.specs.Still.{IsSettled, IsStill}
use Rattle.nx_replay.specs.Log.{Group, replay, HasGroup}
use Rattle.nx_wal.specs.Lost.{IsFirstLost, LosesNone}
use Rattle.nx_holdings.specs.declared.header.Header.{Header}
use Rattle.nx_holdings.specs.Header.{header_bytes, IsInRange}
use Rattle.nx_holdings.specs.declared.header.Settings.{Settings}
use Rattle.nx_records.specs.Changes.{nothing_held}
use Rattle.nx_holdings.specs.Holdings.{Held, Holds}
use Rattle.nx_records.specs.Records.{has_ended, has_free, log_length_of, settings_of, LeavesRecords, HasHeader, StandsFor, KeepsSaved}
use Rattle.nx_records.specs.declared.records.Records.{Records}
use Rattle.nx_records.specs.declared.error.StoreError.{StoreError}
use Rattle.nx_records.specs.declared.error.StoreError.TheVariants as error

-- The records ran, and have ended in this call.
pub record EndNow (old new : Records) : Type 0 where
  pub before : has_ended old ≡ false
  pub after : has_ended new ≡ true
  pub length_stays : log_length_of new ≡ log_length_of old
  pub settings_stay : settings_of new ≡ settings_of old

-- They ran before and run on.
pub record RunsOn (old new : Records) : Type 0 where
  pub before : has_ended old ≡ false
  pub after : has_ended new ≡ false
  pub length_stays : log_length_of new ≡ log_length_of old
  pub settings_stay : settings_of new ≡ settings_of old

-- The records had ended before the call, which left them and the disk alone.
abbrev pub HadEnded : {D : Type 0} → Records → Records → D → D → Type 0
HadEnded old new before after = (has_ended old ≡ true) × LeavesRecords old new × (after ≡ before)

-- Where the pages are sound, what is held lacks what the call names. This page is what is told.
pub record IsDamaged {D : Type 0} (d : Ghosts D) (Lacks : Held → Type 0) (named told : ℕ) (old new : Records) (before : D) : Type 0 where
  pub page : told ≡ named
  pub ends : EndNow old new
  pub lacks : (saved now : Held) → StandsFor d old before saved now → Lacks now

-- Why a call that changes nothing gave up.
abbrev pub NotRead : {D : Type 0} → Ghosts D → (Held → Type 0) → ℕ → StoreError → Records → Records → D → D → Type 0
NotRead d Lacks named error.Disk old new before after = Rose (d.faults before) (d.faults after) × EndNow old new
NotRead d Lacks named (error.Damaged page) old new before after = IsDamaged d Lacks named page old new before
NotRead d Lacks named error.Ended old new before after = HadEnded old new before after
NotRead d Lacks named error.Memory old new before after = (has_ended old ≡ false) × LeavesRecords old new
NotRead d Lacks named error.Exists old new before after = ⊥
NotRead d Lacks named error.NotAStore old new before after = ⊥
NotRead d Lacks named error.Full old new before after = ⊥

-- Why a call that changes something and needs no page gave up.
abbrev pub NotChanged : {D : Type 0} → Ghosts D → (Held → Type 0) → ℕ → StoreError → Records → Records → D → D → Type 0
NotChanged d Lacks named error.Disk old new before after = Rose (d.faults before) (d.faults after) × EndNow old new
NotChanged d Lacks named (error.Damaged page) old new before after = IsDamaged d Lacks named page old new before
NotChanged d Lacks named error.Ended old new before after = HadEnded old new before after
NotChanged d Lacks named error.Memory old new before after = RunsOn old new × KeepsSaved d old new before after
NotChanged d Lacks named error.Exists old new before after = ⊥
NotChanged d Lacks named error.NotAStore old new before after = ⊥
NotChanged d Lacks named error.Full old new before after = ⊥

-- No page is free now; over sound pages fewer were free than the call may need.
pub record IsFull {D : Type 0} (d : Ghosts D) (needs : Held → ℕ) (old new : Records) (before after : D) : Type 0 where
  pub runs : RunsOn old new
  pub none_free : has_free new ≡ false
  pub few : (saved now : Held) → StandsFor d old before saved now → now.free < needs now
  pub keeps : KeepsSaved d old new before after

-- Why a call that may need so many pages gave up.
abbrev pub NotStored : {D : Type 0} → Ghosts D → (Held → ℕ) → (Held → Type 0) → ℕ → StoreError → Records → Records → D → D → Type 0
NotStored d needs Lacks named error.Disk old new before after = Rose (d.faults before) (d.faults after) × EndNow old new
NotStored d needs Lacks named error.Full old new before after = IsFull d needs old new before after
NotStored d needs Lacks named (error.Damaged page) old new before after = IsDamaged d Lacks named page old new before
NotStored d needs Lacks named error.Ended old new before after = HadEnded old new before after
NotStored d needs Lacks named error.Memory old new before after = RunsOn old new × KeepsSaved d old new before after
NotStored d needs Lacks named error.Exists old new before after = ⊥
NotStored d needs Lacks named error.NotAStore old new before after = ⊥

-- Why a commit or a checkpoint gave up.
abbrev pub NotWritten : {D : Type 0} → Ghosts D → StoreError → Records → Records → D → D → Type 0
NotWritten d error.Disk old new before after = Rose (d.faults before) (d.faults after) × EndNow old new
NotWritten d error.Ended old new before after = HadEnded old new before after
NotWritten d error.Memory old new before after = ⊥
NotWritten d (error.Damaged page) old new before after = ⊥
NotWritten d error.Exists old new before after = ⊥
NotWritten d error.NotAStore old new before after = ⊥
NotWritten d error.Full old new before after = ⊥

-- A disk without pages has become that of a new store: its log has one group more, whose number is 0.
pub record IsNewStore (settings : Settings) (was now : Image) : Type 0 where
  pub none_before : (p : ℕ) → replay was p ≡ None
  pub group : Group
  pub number : group.number ≡ 0
  pub more : HasGroup group was now
  pub holds : Holds (replay now) (nothing_held settings)

-- Why no store was created. A disk that has a page was asked alone.
abbrev pub NotCreated : {D : Type 0} → Ghosts D → StoreError → D → D → Type 0
NotCreated d error.Disk before after = Rose (d.faults before) (d.faults after) × ((was : Image) (p : ℕ) → IsSettled d before was → IsSome (replay was p) → IsStill d before after)
NotCreated d error.Exists before after = IsStill d before after × ((was : Image) → IsSettled d before was → (p : ℕ) × IsSome (replay was p))
NotCreated d error.Memory before after = IsStill d before after
NotCreated d error.Ended before after = ⊥
NotCreated d (error.Damaged page) before after = ⊥
NotCreated d error.NotAStore before after = ⊥
NotCreated d error.Full before after = ⊥

-- page 0 is no header
abbrev pub LacksHeader : Image → Type 0
LacksHeader was = (head : Header) → replay was 0 ≡ Some (header_bytes head) → IsInRange head → ⊥

-- The pages area has no page, and of the pages below the header's number this is the first that no group of the log has.
pub record HasLost (page : ℕ) (was : Image) : Type 0 where
  pub head : Header
  pub here : replay was 0 ≡ Some (header_bytes head)
  pub range : IsInRange head
  pub lost : IsFirstLost page head.pages was

-- where the pages area has no page, a group of the log has each page below the header's number
abbrev pub HasLostNone : Image → Type 0
HasLostNone was = (head : Header) → replay was 0 ≡ Some (header_bytes head) → IsInRange head → LosesNone head.pages was

-- The page is one that opening looks at, and isn't as it has to be: page 0 is no header, or the first page that is lost is this one.
abbrev pub ShowsDamage : ℕ → Image → Type 0
ShowsDamage page was = (page ≡ 0) × LacksHeader was ⊎ HasLost page was

-- Why none was opened.
abbrev pub NoRecordsOpened : {D : Type 0} → Ghosts D → StoreError → D → D → Type 0
NoRecordsOpened d error.Disk before after = Rose (d.faults before) (d.faults after)
NoRecordsOpened d error.NotAStore before after = (was : Image) → IsSettled d before was → HasHeader was → ⊥
NoRecordsOpened d (error.Damaged page) before after =
    ((was : Image) → IsSettled d before was → ShowsDamage page was) × ((was : Image) → IsSettled d before was → HasHeader was × ((held : Held) → Holds (replay was) held → ⊥))
NoRecordsOpened d error.Memory before after = Unit {0}
NoRecordsOpened d error.Ended before after = ⊥
NoRecordsOpened d error.Exists before after = ⊥
NoRecordsOpened d error.Full before after = ⊥
