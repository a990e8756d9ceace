-- What records and their disk stand for.
use Rattle.std.specs.Prelude.{◌≡◌, ◌≢◌, ◌⊎◌, ◌==◌, if◌then◌else◌, nat_lt, ℕ, Bool, true, false, List, [], length}
use Rattle.nx_host.specs.Disk.{Image}
use Rattle.nx_host.specs.declared.disk.Disk.{Ghosts}
use Rattle.nx_replay.specs.Log.{Pages, groups, end_of, entry_pages, replay, HasMark}
use Rattle.nx_wal.specs.Wal.{IsInStep, Follows, current, pending, length_of}
use Rattle.nx_holdings.specs.declared.header.Header.{Header}
use Rattle.nx_holdings.specs.declared.header.Settings.{Settings}
use Rattle.nx_holdings.specs.Holdings.{Held, HoldsBy}
use Rattle.nx_records.specs.Numbering.{number_behind}
use Rattle.nx_records.specs.declared.records.Records.{Records}

-- an earlier call answered `Disk` or `Damaged`, or the records were ended
abbrev pub has_ended : Records → Bool
has_ended records = records.ended

abbrev pub settings_of : Records → Settings
settings_of records = records.head.settings

-- how many bytes the catalog has, by the header
abbrev pub catalog_length_of : Records → ℕ
catalog_length_of records = (records.head).catalog_length

-- how many pages there are, by the header
abbrev pub page_count_of : Records → ℕ
page_count_of records = (records.head).pages

-- where the log ends
abbrev pub log_length_of : Records → ℕ
log_length_of records = length_of records.wal

-- how many groups the log of an image has
abbrev pub image_group_count : Image → ℕ
image_group_count image = length (groups image.log)

-- ... and how many bytes they take
abbrev pub log_end : Image → ℕ
log_end image = end_of (groups image.log)

-- a page is free by this header: one of the free list, or one that was never used
abbrev pub has_free_by : Header → Bool
has_free_by h = if h.free == 0 then nat_lt h.pages h.settings.limit else true

abbrev pub has_free : Records → Bool
has_free records = has_free_by records.head

-- the number of the last commit's group, and that which the next one has
abbrev pub last_number : Records → ℕ
last_number records = (records.saved).number

abbrev pub next_number : Records → ℕ
next_number records = number_behind (last_number records)

-- the format that the last commit's header says
abbrev pub format_of : Records → ℕ
format_of records = (records.saved).format

-- something waits for a commit
abbrev pub HasChanges : Records → Type 0
HasChanges records = pending records.wal ≢ []

-- nothing does
abbrev pub HasNoChanges : Records → Type 0
HasNoChanges records = pending records.wal ≡ []

-- The disk stands as the last call of these records left it, and has this image alone.
abbrev pub IsInStepWith : {D : Type 0} → Ghosts D → Records → D → Image → Type 0
IsInStepWith d records disk image = IsInStep d records.wal disk image

-- the pages as the changes that wait, else those of the image, have them
abbrev pub current_pages : Records → Image → Pages
current_pages records image = current records.wal image

-- the pages that wait for a commit
abbrev pub waiting : Records → Pages
waiting records = entry_pages (pending records.wal)

-- Of the pages beside the header's, each that has the bytes that it had waits only as it did before.
abbrev pub PutsChangedAlone : Records → Records → Image → Type 0
PutsChangedAlone old new was = (page : ℕ) → page ≢ 0 → current_pages new was page ≡ current_pages old was page → waiting new page ≡ waiting old page

-- page 0 of the image begins as that of a store does
abbrev pub HasHeader : Image → Type 0
HasHeader image = HasMark (replay image)

-- each log that the old ones follow the new ones follow
abbrev pub FollowsOn : Records → Records → Type 0
FollowsOn old new = (log : List ℕ) → Follows old.wal log → Follows new.wal log

-- What a call that only reads leaves of records: the log that they follow, the changes that wait for a commit, the headers, the pages of the catalog that are known, and whether they have ended.
pub record LeavesRecords (old new : Records) : Type 0 where
  pub follows : FollowsOn old new
  pub changes_stay : pending new.wal ≡ pending old.wal
  pub saved_stays : new.saved ≡ old.saved
  pub head_stays : new.head ≡ old.head
  pub known_stay : new.catalog_pages ≡ old.catalog_pages
  pub ended_stays : has_ended new ≡ has_ended old
  pub length_stays : log_length_of new ≡ log_length_of old

-- pages that are known, if any are, are these
abbrev pub AreKnown : (known pages : List ℕ) → Type 0
AreKnown known pages = known ≢ [] → known ≡ pages

-- on which pages the catalog stands is known
abbrev pub KnowsCatalog : Records → Type 0
KnowsCatalog records = records.catalog_pages ≢ []

-- The pages of the catalog that were known still are, or none are.
abbrev pub KeepsKnown : (old new : List ℕ) → Type 0
KeepsKnown old new = (new ≡ old) ⊎ (new ≡ [])

-- The records run, the disk stands as the last call left it, and the last commit holds this.
pub record HasSaved {D : Type 0} (d : Ghosts D) (records : Records) (disk : D) (saved : Held) : Type 0 where
  pub runs : has_ended records ≡ false
  pub image : Image
  pub step : IsInStepWith d records disk image
  pub holds : HoldsBy (replay image) records.saved saved

-- ... and what was changed since then makes that of it.
pub record StandsFor {D : Type 0} (d : Ghosts D) (records : Records) (disk : D) (saved now : Held) : Type 0 where
  pub keeps : HasSaved d records disk saved
  pub holds : HoldsBy (current_pages records keeps.image) records.head now
  pub known : AreKnown records.catalog_pages now.catalog.pages

-- What the last commit holds is left.
abbrev pub KeepsSaved : {D : Type 0} → Ghosts D → Records → Records → D → D → Type 0
KeepsSaved d old new before after = (saved : Held) → HasSaved d old before saved → HasSaved d new after saved

-- The object runs on and follows the log that it followed, with the header of the last commit.
pub record KeepsLog (old new : Records) : Type 0 where
  pub runs : has_ended new ≡ false
  pub follows : FollowsOn old new
  pub saved : new.saved ≡ old.saved
  pub length_stays : log_length_of new ≡ log_length_of old
  pub settings_stay : settings_of new ≡ settings_of old
  pub known : KeepsKnown old.catalog_pages new.catalog_pages

-- Of what they stood for, the records now stand for something that came of it so.
abbrev pub ComesTo : {D : Type 0} → Ghosts D → Records → Records → D → D → (Held → Held → Type 0) → Type 0
ComesTo d old new before after Comes = (saved now : Held) → StandsFor d old before saved now → (next : Held) × StandsFor d new after saved next × Comes now next
