-- What moving pages from the log to the pages area does.
use Rattle.std.specs.Prelude.{◌≡◌, ℕ, ◌+◌, ◌*◌, ◌≤◌, List, length, take, drop, Option, Some, IsSome}
use Rattle.std.specs.List.{AllByRecursion}
use Rattle.nx_numbers.specs.Sizes.{page_size}
use Rattle.nx_host.specs.Disk.{Image, ComesTorn}
use Rattle.nx_host.specs.declared.disk.Area.TheVariants.{Pages}
use Rattle.nx_host.specs.declared.disk.Disk.{Ghosts}
use Rattle.nx_host.specs.Still.{WritesAlone, IsSettled}
use Rattle.nx_replay.specs.Log.{groups, logged, IsPartlyMoved}
use Rattle.nx_wal.specs.Places.{Places, LeadsTo, AreWithin}

-- The range of one page was written, and no sync has made it durable.
pub record WritesPage {D : Type 0} (d : Ghosts D) (page : ℕ) (old new : D) : Type 0 where
  pub goes : WritesAlone d old new (ComesTorn Pages (page_size * page) page_size (d.may_leave old))
  pub images : (i : Image) → d.may_leave new i → ComesTorn Pages (page_size * page) page_size (d.may_leave old) i

-- The disk has this image alone, and the places lead to the pages of its log.
pub record IsLed {D : Type 0} (d : Ghosts D) (places : Places) (disk : D) (image : Image) : Type 0 where
  pub settled : IsSettled d disk image
  pub leads : LeadsTo (groups image.log) places image.log
  pub within : AreWithin (length image.log) places

-- From old to new pages of the log were written to the pages area alone.
pub record Moves {D : Type 0} (d : Ghosts D) (places : Places) (old new : D) : Type 0 where
  pub goes : WritesAlone d old new (λ i. (was : Image) → IsLed d places old was → IsPartlyMoved was i)
  pub images : (i : Image) → d.may_leave new i → (was : Image) → IsLed d places old was → IsPartlyMoved was i

-- where the log has this page, the area has it so
abbrev pub IsInArea : List ℕ → List ℕ → ℕ → Type 0
IsInArea log area q = IsSome (logged (groups log) q) → (page_size * q + page_size ≤ length area) × (logged (groups log) q ≡ Some (take page_size (drop (page_size * q) area)))

-- These pages of the log stand in the area.
pub record HasMoved {D : Type 0} (d : Ghosts D) (places : Places) (es : List (ℕ × Option ℕ)) (old new : D) : Type 0 where
  pub log : (was now : Image) → IsLed d places old was → d.contents new ≡ Some now → now.log ≡ was.log
  pub there : (was now : Image) → IsLed d places old was → d.contents new ≡ Some now → AllByRecursion (λ (e : ℕ × Option ℕ). IsInArea was.log now.pages e.0) es
