-- What `init` does: it makes a store on a disk without pages. It takes no input.
use Rattle.std.specs.Prelude.{◌≡◌, ◌⊎◌, ◌↔◌, ℕ, ◌≤◌, List, None, Some, IsSome, codes}
use Rattle.nx_host.specs.declared.disk.Disk.{Ghosts}
use Rattle.nx_host.specs.Disk.{Image, Beside, Keeps, Rose}
use Rattle.nx_host.specs.Host.{Appends, AppendsPrefix}
use Rattle.nx_host.specs.Time.{Stood, Elapses}
use Rattle.nx_host.specs.Still.{IsStill, WritesAlone, IsSettled}
use Rattle.nx_records.specs.Words.{replay, HasSame, Settings, Held, Holds}
use Rattle.nx_records.specs.Changes.{nothing_held}
use Rattle.nx_records.specs.Refusals.{IsNewStore}
use Rattle.nx_state.specs.State.{new_state}
use Rattle.nx_state.specs.Stands.{Recovers}
use Rattle.nx_filters.specs.declared.status.Status.{Status}
use Rattle.nx_filters.specs.declared.status.Status.TheVariants.{Done, Refused, DiskFault, WriteFault, NoMemory}
use Rattle.nx_filters.specs.Outcome.{FailsGiving}

-- the line for a store that was made
abbrev pub made_line : List ℕ
made_line = codes "ok\n"

-- the line for a disk that had pages
abbrev pub exists_line : List ℕ
exists_line = codes "refused exists\n"

-- The image has no page.
abbrev pub HasNoPage : Image → Type 0
HasNoPage image = (p : ℕ) → replay image p ≡ None

-- It has one.
abbrev pub HasPage : Image → Type 0
HasPage image = (p : ℕ) × IsSome (replay image p)

-- The image is as the disk was, or it is the new store, with these settings and nothing in it.
abbrev pub IsOldOrNew : Settings → Image → Image → Type 0
IsOldOrNew settings was i = HasSame was i ⊎ IsNewStore settings was i

-- At first the disk had one image and nothing unsynced, and now it still tells its contents: so this is said of that image.
abbrev pub OfTheDisk : {D : Type 0} → Ghosts D → D → D → (Image → Type 0) → Type 0
OfTheDisk d old new Said = (was : Image) → IsSettled d old was → IsSome (d.contents new) → Said was

-- how a run ends that gives this line: with `whole`, or with a write fault
abbrev pub SaysLine : List ℕ → Status → Status → Beside → Beside → Type 0
SaysLine line whole status old new = ((status ≡ whole) × Appends line old.output new.output) ⊎ ((status ≡ WriteFault) × FailsGiving line old new)

-- a moment at which nothing was given, and the image is as the disk was, or the new store
abbrev pub IsMaking : {D : Type 0} → Ghosts D → Settings → D → D → Stood → Type 0
IsMaking d settings old new s = Keeps (d.beside old).output s.output × OfTheDisk d old new (λ was. IsOldOrNew settings was s.image)

-- a moment at which a prefix of `ok` was given, and the image is the new store
abbrev pub IsStoreMade : {D : Type 0} → Ghosts D → Settings → D → D → Stood → Type 0
IsStoreMade d settings old new s = AppendsPrefix made_line (d.beside old).output s.output × OfTheDisk d old new (λ was. IsNewStore settings was s.image)

-- The store was made, and then `ok` given: while a byte of it is out, each image is the new store, and so is the one that is left.
pub record MakesStore {D : Type 0} (d : Ghosts D) (settings : Settings) (status : Status) (old new : D) : Type 0 where
  pub says : SaysLine made_line Done status (d.beside old) (d.beside new)
  pub time : Elapses d.moment d.stood_since old new (λ s. IsMaking d settings old new s ⊎ IsStoreMade d settings old new s)
  pub made : (was now : Image) → IsSettled d old was → d.contents new ≡ Some now → IsSettled d new now × IsNewStore settings was now

-- A line was given, or a first part of it. Both areas are left as they were, and were so at every moment, beside a first part of the line.
pub record TellsLine {D : Type 0} (d : Ghosts D) (line : List ℕ) (old new : D) : Type 0 where
  pub time : Elapses d.moment d.stood_since old new (λ s. AppendsPrefix line (d.beside old).output s.output × d.may_leave old s.image)
  pub contents_stay : Keeps (d.contents old) (d.contents new)
  pub images_stay : (i : Image) → d.may_leave new i ↔ d.may_leave old i

-- The disk had pages, and the line was given that says so.
pub record FindsPages {D : Type 0} (d : Ghosts D) (status : Status) (old new : D) : Type 0 where
  pub says : SaysLine exists_line Refused status (d.beside old) (d.beside new)
  pub tells : TellsLine d exists_line old new
  pub pages : (was : Image) → IsSettled d old was → HasPage was

-- Nothing was given: a call of the disk failed, and each image is as the disk was, or the new store, and both areas were left as they were where the disk had
-- a page; or there was no memory, and both areas were left as they were.
abbrev pub GivesUp : {D : Type 0} → Ghosts D → Settings → Status → D → D → Type 0
GivesUp d settings DiskFault old new = Rose (d.faults old) (d.faults new)
    × WritesAlone d old new (λ i. (was : Image) → IsSettled d old was → IsOldOrNew settings was i)
    × ((was : Image) → IsSettled d old was → HasPage was → IsStill d old new)
GivesUp d settings NoMemory old new = IsStill d old new
GivesUp d settings _ old new = ⊥

-- How `init` is carried out. It takes no input.
pub record Initializes {D : Type 0} (d : Ghosts D) (settings : Settings) (status : Status) (old new : D) : Type 0 where
  pub ends : MakesStore d settings status old new ⊎ FindsPages d status old new ⊎ GivesUp d settings status old new
  pub input_stays : Keeps (d.beside old).input (d.beside new).input
  pub in_faults_stay : (d.beside new).in_faults ≡ (d.beside old).in_faults
  pub out_faults_later : (d.beside old).out_faults ≤ (d.beside new).out_faults
  pub faults_later : d.faults old ≤ d.faults new

-- The disk had this image and nothing unsynced, it still tells its contents, and neither a call of it nor writing failed.
pub record IsUntroubled {D : Type 0} (d : Ghosts D) (was : Image) (old new : D) : Type 0 where
  pub settled : IsSettled d old was
  pub still_told : IsSome (d.contents new)
  pub disk : ¬ Rose (d.faults old) (d.faults new)
  pub written : ¬ Rose (d.beside old).out_faults (d.beside new).out_faults

-- Over such a disk a store is made where it has no page, and refused where it has one, unless memory runs out.
abbrev pub CompletesInit : Image → Status → Type 0
CompletesInit was Done = HasNoPage was
CompletesInit was Refused = HasPage was
CompletesInit was NoMemory = Unit {0}
CompletesInit was _ = ⊥

-- What is said of a disk holds together: it has pages or none, an image is as it was or the new store, and what that holds is known.
pub record InitHoldsTogether (settings : Settings) : Type 0 where
  pub one_outcome : (was : Image) → HasNoPage was → HasPage was → ⊥
  pub one_disk : (was i : Image) → HasSame was i → IsNewStore settings was i → ⊥

-- What the disk was is no store, and the new store holds its settings, and nothing else.
pub record HoldsNothing (settings : Settings) : Type 0 where
  pub absent : (was i : Image) → HasNoPage was → HasSame was i → Recovers i None
  pub recovers : (was now : Image) → IsNewStore settings was now → Recovers now (Some (new_state settings))
  pub alone : (was now : Image) (held : Held) → IsNewStore settings was now → Holds (replay now) held → held ≡ nothing_held settings
