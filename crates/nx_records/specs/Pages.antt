-- What the steps of a call read of pages, and make of them.
use Rattle.std.specs.Prelude.{◌≡◌, ◌≢◌, ◌⊎◌, ◌==◌, if◌then◌else◌, ℕ, ◌+◌, ◌<◌, ◌^◌, false, List, Option, Some, None, MatchOption, slice_index_or}
use Rattle.nx_host.specs.Disk.{Image, Rose}
use Rattle.nx_host.specs.declared.disk.Disk.{Ghosts}
use Rattle.nx_replay.specs.Log.{Pages}
use Rattle.nx_slots.specs.Slots.{IsSlotted, slots_of}
use Rattle.nx_wal.specs.Wal.{IsInStep, current}
use Rattle.nx_holdings.specs.declared.header.Header.{Header}
use Rattle.nx_holdings.specs.Header.{newest_format}
use Rattle.nx_holdings.specs.Holdings.{with_page, Held, HoldsBehind, free_bytes}
use Rattle.nx_records.specs.Records.{has_free, next_number, waiting, KeepsLog}
use Rattle.nx_records.specs.Refusals.{EndNow}
use Rattle.nx_records.specs.declared.records.Records.{Records}
use Rattle.nx_records.specs.declared.error.StoreError.{StoreError}
use Rattle.nx_records.specs.declared.error.StoreError.TheVariants as error

-- The page is a slotted page with these slots.
pub record HasSlots (pages : Pages) (page : ℕ) (slots : List (Option (List ℕ))) : Type 0 where
  pub bytes : List ℕ
  pub there : pages page ≡ Some bytes
  pub slotted : IsSlotted bytes
  pub are : slots_of bytes ≡ slots

-- The page is the free page with this next page.
pub record IsFreeAt (pages : Pages) (page next : ℕ) : Type 0 where
  pub there : pages page ≡ Some (free_bytes next)
  pub low : next < 2 ^ 32

-- Of the pages that the object sees this holds, whatever they are.
abbrev pub SeesSo : {D : Type 0} → Ghosts D → Records → D → (Pages → Type 0) → Type 0
SeesSo d records disk P = (was : Image) → IsInStep d records.wal disk was → P (current records.wal was)

-- the page is slotted and its slot has this record, or it isn't or has none
abbrev pub SlotGives : (page : List ℕ) → (slot : ℕ) → Option (List ℕ) → Type 0
SlotGives page slot found = MatchOption found (IsSlotted page → slice_index_or (slots_of page) slot None ≡ None)
    (λ bytes. IsSlotted page × (slice_index_or (slots_of page) slot None ≡ Some bytes))

-- ... where such a page is there at all
abbrev pub PlaceGives : Pages → (page slot : ℕ) → Option (List ℕ) → Type 0
PlaceGives pages page slot found = MatchOption (pages page) (found ≡ None) (λ bytes. SlotGives bytes slot found)

-- Why no record was looked for.
abbrev pub NotSeen : {D : Type 0} → Ghosts D → StoreError → Records → Records → D → D → Type 0
NotSeen d error.Disk old new before after = Rose (d.faults before) (d.faults after) × EndNow old new
NotSeen d error.Memory old new before after = new ≡ old
NotSeen d error.Ended old new before after = ⊥
NotSeen d error.Exists old new before after = ⊥
NotSeen d error.NotAStore old new before after = ⊥
NotSeen d error.Full old new before after = ⊥
NotSeen d (error.Damaged page) old new before after = ⊥

-- Why a page wasn't read.
abbrev pub NotLoaded : {D : Type 0} → Ghosts D → StoreError → Records → Records → D → D → Type 0
NotLoaded d error.Disk old new before after = Rose (d.faults before) (d.faults after) × EndNow old new
NotLoaded d error.Ended old new before after = ⊥
NotLoaded d error.Exists old new before after = ⊥
NotLoaded d error.NotAStore old new before after = ⊥
NotLoaded d error.Full old new before after = ⊥
NotLoaded d (error.Damaged page) old new before after = ⊥
NotLoaded d error.Memory old new before after = ⊥

-- Why what was asked for wasn't found: a call failed, or the pages aren't so.
abbrev pub NotFound : {D : Type 0} → Ghosts D → (Pages → Type 0) → ℕ → StoreError → Records → Records → D → D → Type 0
NotFound d P named error.Disk old new before after = Rose (d.faults before) (d.faults after) × EndNow old new
NotFound d P named (error.Damaged page) old new before after = (page ≡ named) × EndNow old new × SeesSo d old before P
NotFound d P named error.Ended old new before after = ⊥
NotFound d P named error.Exists old new before after = ⊥
NotFound d P named error.NotAStore old new before after = ⊥
NotFound d P named error.Full old new before after = ⊥
NotFound d P named error.Memory old new before after = ⊥

-- the header of a commit with this number, which writes the newest format
abbrev pub numbered : ℕ → Header → Header
numbered number h = record h { format = newest_format; number = number }

-- The page waits with these bytes, and all others as they did.
pub record PutsPage (page : ℕ) (bytes : List ℕ) (old new : Records) : Type 0 where
  pub head : new.head ≡ numbered (next_number old) old.head
  pub waits : (p : ℕ) → waiting new p ≡ with_page (waiting old) page bytes p
  pub known : new.catalog_pages ≡ old.catalog_pages

-- The page was taken from the free list, or was the first that was never used.
pub record IsFirstFree (pages : Pages) (page : ℕ) (was now : Header) : Type 0 where
  pub some : was.free ≢ 0
  pub here : page ≡ was.free
  pub low : page < was.pages
  pub next : ℕ
  pub free : IsFreeAt pages page next
  pub head : now ≡ record was { free = next }

pub record IsFirstUnused (page : ℕ) (was now : Header) : Type 0 where
  pub none : was.free ≡ 0
  pub here : page ≡ was.pages
  pub low : was.pages < was.settings.limit
  pub head : now ≡ record was { pages = was.pages + 1 }

abbrev pub IsPageTaken : Pages → ℕ → Header → Header → Type 0
IsPageTaken pages page was now = IsFirstFree pages page was now ⊎ IsFirstUnused page was now

-- the first free page is none, as it should be
abbrev pub NoFreePage : Header → Pages → Type 0
NoFreePage h pages = (h.free ≢ 0) × (h.free < h.pages → (next : ℕ) → IsFreeAt pages h.free next → ⊥)

-- Why no page was taken.
abbrev pub NotTaken : {D : Type 0} → Ghosts D → ℕ → StoreError → Records → Records → D → D → Type 0
NotTaken d named error.Disk old new before after = Rose (d.faults before) (d.faults after) × EndNow old new
NotTaken d named (error.Damaged page) old new before after = (page ≡ named) × EndNow old new × SeesSo d old before (NoFreePage old.head)
NotTaken d named error.Full old new before after = (new ≡ old) × (has_free old ≡ false)
NotTaken d named error.Ended old new before after = ⊥
NotTaken d named error.Exists old new before after = ⊥
NotTaken d named error.NotAStore old new before after = ⊥
NotTaken d named error.Memory old new before after = ⊥

-- the header, where a page was given back to the free list
abbrev pub released : ℕ → Header → Header
released page h = record h { free = page; room = if h.room == page then 0 else h.room }

-- Of what the pages hold behind the header they now hold something that came of it so. The header's page may be older.
abbrev pub StepsTo : {D : Type 0} → Ghosts D → Records → Records → D → (Held → Held → Type 0) → Type 0
StepsTo d old new before Comes = (was : Image) (held : Held) → IsInStep d old.wal before was → HoldsBehind (current old.wal was) old.head held
    → (next : Held) × HoldsBehind (current new.wal was) new.head next × Comes held next

-- This holds of all that the pages may hold behind the header.
abbrev pub HoldsSo : {D : Type 0} → Ghosts D → Records → D → (Held → Type 0) → Type 0
HoldsSo d records disk P = (was : Image) (held : Held) → IsInStep d records.wal disk was → HoldsBehind (current records.wal was) records.head held → P held

-- Why a record wasn't put. Where no page is free, this says how few were free of what was held.
abbrev pub NotPut : {D : Type 0} → Ghosts D → (Held → Type 0) → ℕ → StoreError → Records → Records → D → D → Type 0
NotPut d Few named error.Disk old new before after = Rose (d.faults before) (d.faults after) × EndNow old new
NotPut d Few named (error.Damaged page) old new before after = (page ≡ named) × EndNow old new × HoldsSo d old before (λ held. ⊥)
NotPut d Few named error.Full old new before after = KeepsLog old new × (has_free new ≡ false) × HoldsSo d old before Few
NotPut d Few named error.Memory old new before after = KeepsLog old new
NotPut d Few named error.Ended old new before after = ⊥
NotPut d Few named error.Exists old new before after = ⊥
NotPut d Few named error.NotAStore old new before after = ⊥
