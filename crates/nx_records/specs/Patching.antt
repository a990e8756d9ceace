-- Bytes in the place of as many of the catalog's, page by page.
use Rattle.std.specs.Prelude.{◌≡◌, ◌⊎◌, ℕ, List, Some, slice_get}
use Rattle.nx_host.specs.Disk.{Image, Rose}
use Rattle.nx_host.specs.declared.disk.Disk.{Ghosts}
use Rattle.nx_wal.specs.Wal.{IsInStep, current}
use Rattle.nx_holdings.specs.Holdings.{Held, HoldsBehind}
use Rattle.nx_records.specs.Records.{current_pages, waiting, KeepsLog, PutsChangedAlone}
use Rattle.nx_records.specs.Within.{patched}
use Rattle.nx_records.specs.Pages.{HoldsSo}
use Rattle.nx_records.specs.Refusals.{EndNow}
use Rattle.nx_records.specs.declared.records.Records.{Records}
use Rattle.nx_records.specs.declared.error.StoreError.{StoreError}
use Rattle.nx_records.specs.declared.error.StoreError.TheVariants as error

-- the same, with these bytes in the place of as many of the catalog's
abbrev pub with_patch : Held → (at : ℕ) → (bytes : List ℕ) → Held
with_patch held at bytes = record held { catalog = record { bytes = patched at bytes held.catalog.bytes; pages = held.catalog.pages } }

-- Where the catalog stands on these pages, the steps have put bytes in the place of as many of its, and left all else. The header's page may be older.
abbrev pub PatchesTo : {D : Type 0} → Ghosts D → Records → Records → D → (pages : List ℕ) → (at : ℕ) → (bytes : List ℕ) → Type 0
PatchesTo d old new before pages at bytes = (was : Image) (held : Held) → IsInStep d old.wal before was → HoldsBehind (current old.wal was) old.head held → held.catalog.pages ≡ pages
    → HoldsBehind (current new.wal was) new.head (with_patch held at bytes)

-- ... and of pages that stay none waits
abbrev pub PatchesAlone : {D : Type 0} → Ghosts D → Records → Records → D → (pages : List ℕ) → Type 0
PatchesAlone d old new before pages =
    (was : Image) (held : Held) → IsInStep d old.wal before was → HoldsBehind (current old.wal was) old.head held → held.catalog.pages ≡ pages → PutsChangedAlone old new was

-- Each page waits as it did, or is the one with this index and has other bytes.
abbrev pub PutsAt : (pages : List ℕ) → (index : ℕ) → Records → Records → Image → Type 0
PutsAt pages index old new was = (p : ℕ) → (waiting new p ≡ waiting old p) ⊎ ((slice_get pages index ≡ Some p) × (current_pages new was p ≡ current_pages old was p → ⊥))

-- Why no bytes were put. Where the page is damaged, the catalog doesn't stand on these pages.
abbrev pub NotPatched : {D : Type 0} → Ghosts D → (pages : List ℕ) → StoreError → Records → Records → D → D → Type 0
NotPatched d pages error.Disk old new before after = Rose (d.faults before) (d.faults after) × EndNow old new
NotPatched d pages (error.Damaged page) old new before after = (page ≡ 0) × EndNow old new × HoldsSo d old before (λ held. held.catalog.pages ≡ pages → ⊥)
NotPatched d pages error.Memory old new before after = KeepsLog old new
NotPatched d pages error.Full old new before after = ⊥
NotPatched d pages error.Ended old new before after = ⊥
NotPatched d pages error.Exists old new before after = ⊥
NotPatched d pages error.NotAStore old new before after = ⊥
