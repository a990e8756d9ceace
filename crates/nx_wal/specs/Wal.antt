-- What a log and its disk stand for.
use Rattle.std.specs.Prelude.{◌≡◌, ℕ, ◌-◌, ◌<◌, ◌≤◌, Bool, true, false, List, [], ◌∷◌, length, Option, Some, None, IsSome}
use Rattle.nx_host.specs.Disk.{Image, Rose}
use Rattle.nx_host.specs.declared.disk.Disk.{Ghosts}
use Rattle.nx_host.specs.Still.{IsSettled}
use Rattle.nx_slots.specs.Edits.{free_in, needed_for, IsOneOfSeveral}
use Rattle.nx_slots.specs.Slots.{slots_of, IsSlotted}
use Rattle.nx_replay.specs.Log.{Pages, Entry, Group, over, replay, groups, entry_pages, IsLogEnd, HasMark}
use Rattle.nx_wal.specs.Places.{LeadsTo, AreWithin, starts_from}
use Rattle.nx_wal.specs.Writing.{entries_of, group_with}
use Rattle.nx_wal.specs.InPlace.{PutsInto, TakesOut}
use Rattle.nx_wal.specs.declared.wal.Wal.{Wal}
use Rattle.nx_wal.specs.declared.error.WalError.{WalError}
use Rattle.nx_wal.specs.declared.error.WalError.TheVariants as error

-- an earlier call failed
abbrev pub wal_ended : Wal → Bool
wal_ended wal = wal.ended

-- where the log ends
abbrev pub length_of : Wal → ℕ
length_of wal = wal.end

-- how many groups the log has
abbrev pub group_count : Wal → ℕ
group_count wal = length wal.starts.items

-- the pages that wait for a commit, as the entries of its group, by their numbers
abbrev pub pending : Wal → List Entry
pending wal = entries_of wal.waiting.pages.entries

-- the group that a commit with this number writes
abbrev pub next_group : ℕ → Wal → Group
next_group number wal = group_with number wal.waiting.pages.entries

-- The object follows this log: it knows where the log ends, and where each of its pages stands.
pub record Follows (wal : Wal) (log : List ℕ) : Type 0 where
  pub at : IsLogEnd wal.end wal.shut log
  pub leads : LeadsTo (groups log) wal.places log
  pub within : AreWithin wal.end wal.places
  pub starts : wal.starts.items ≡ starts_from 0 (groups log)

-- The disk stands as the last call left it: it has this image alone, and the object follows its log.
pub record IsInStep {D : Type 0} (d : Ghosts D) (wal : Wal) (disk : D) (image : Image) : Type 0 where
  pub settled : IsSettled d disk image
  pub follows : Follows wal image.log

-- the pages as the pending ones, else those of the image, have them
abbrev pub current : Wal → Image → Pages
current wal image = over (entry_pages (pending wal)) (replay image)

-- one more than the number of the greatest page, 0 where there is none
pub record IsPageCount (count : ℕ) (pages : Pages) : Type 0 where
  pub last : 0 < count → IsSome (pages (count - 1))
  pub none_from : (p : ℕ) → count ≤ p → pages p ≡ None

-- The object ended in this call. What waits stays, and so does the log's length.
pub record EndsWal (old new : Wal) : Type 0 where
  pub before : wal_ended old ≡ false
  pub after : wal_ended new ≡ true
  pub length_stays : length_of new ≡ length_of old
  pub pending_stays : pending new ≡ pending old

-- The page waits, and a record went into a slot of it.
pub record PutsRecord (page : ℕ) (bytes : List ℕ) (slot : ℕ) (old new : Wal) : Type 0 where
  pub runs : wal_ended old ≡ false
  pub was : List ℕ
  pub now : List ℕ
  pub waited : entry_pages (pending old) page ≡ Some was
  pub puts : PutsInto was bytes slot now
  pub waits : entry_pages (pending new) ≡ over (entry_pages (record { page = page; bytes = now } ∷ [])) (entry_pages (pending old))

-- The page waits, and a record went out of a slot of it.
pub record ClearsRecord (page slot : ℕ) (old new : Wal) : Type 0 where
  pub runs : wal_ended old ≡ false
  pub was : List ℕ
  pub now : List ℕ
  pub waited : entry_pages (pending old) page ≡ Some was
  pub takes : TakesOut was slot now
  pub waits : entry_pages (pending new) ≡ over (entry_pages (record { page = page; bytes = now } ∷ [])) (entry_pages (pending old))

-- What waits under a number is no slotted page with a record in the slot and another one besides.
abbrev pub HasNoneBeside : Option (List ℕ) → ℕ → Type 0
HasNoneBeside waiting slot = (page : List ℕ) → waiting ≡ Some page → IsSlotted page → IsOneOfSeveral (slots_of page) slot → ⊥

-- What waits under a number is no slotted page with room for the bytes.
abbrev pub HasNoPageFor : Option (List ℕ) → List ℕ → Type 0
HasNoPageFor waiting bytes = (page : List ℕ) → waiting ≡ Some page → IsSlotted page → free_in (slots_of page) < needed_for (slots_of page) bytes

-- Why a call that goes to the disk gave up.
abbrev pub Refused : {D : Type 0} → Ghosts D → WalError → Wal → Wal → D → D → Type 0
Refused d error.Disk old new before after = Rose (d.faults before) (d.faults after) × EndsWal old new
Refused d error.Ended old new before after = (wal_ended old ≡ true) × (new ≡ old) × (after ≡ before)
Refused d error.Exists old new before after = ⊥
Refused d error.NotAStore old new before after = ⊥
Refused d error.Memory old new before after = ⊥

-- Why no group was read.
abbrev pub NoGroupRead : {D : Type 0} → Ghosts D → WalError → Wal → Wal → D → D → Type 0
NoGroupRead d error.Disk old new before after = Rose (d.faults before) (d.faults after) × EndsWal old new
NoGroupRead d error.Ended old new before after = (wal_ended old ≡ true) × (new ≡ old) × (after ≡ before)
NoGroupRead d error.Memory old new before after = (wal_ended old ≡ false) × (new ≡ old)
NoGroupRead d error.Exists old new before after = ⊥
NoGroupRead d error.NotAStore old new before after = ⊥

-- Why no log was created.
abbrev pub NoLogCreated : {D : Type 0} → Ghosts D → WalError → D → D → Type 0
NoLogCreated d error.Disk before after = Rose (d.faults before) (d.faults after)
NoLogCreated d error.Exists before after = (was : Image) → IsSettled d before was → (p : ℕ) × IsSome (replay was p)
NoLogCreated d error.NotAStore before after = ⊥
NoLogCreated d error.Ended before after = ⊥
NoLogCreated d error.Memory before after = Unit {0}

-- Why none was opened.
abbrev pub NoLogOpened : {D : Type 0} → Ghosts D → WalError → D → D → Type 0
NoLogOpened d error.Disk before after = Rose (d.faults before) (d.faults after)
NoLogOpened d error.Exists before after = ⊥
NoLogOpened d error.NotAStore before after = (was : Image) → IsSettled d before was → HasMark (replay was) → ⊥
NoLogOpened d error.Ended before after = ⊥
NoLogOpened d error.Memory before after = Unit {0}
