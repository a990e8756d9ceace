-- What a disk in memory holds, and what one change more does to it.
use Rattle.std.specs.Prelude.{◌≡◌, ℕ, ◌+◌, ◌*◌, ◌≤◌, List, ◌∷◌, length, reverse}
use Rattle.nx_host.specs.Disk.{Image, area_of}
use Rattle.nx_host.specs.declared.disk.Area.{Area}
use Rattle.nx_host.specs.declared.disk.Area.TheVariants.{Pages, Log}
use Rattle.nx_memory.specs.declared.history.Change.{Change}
use Rattle.nx_memory.specs.declared.memory.Memory.{Memory}
use Rattle.nx_memory.specs.History.{Present, before, covers}

-- the changes, the last one first
abbrev pub changes_of : Memory → List Change
changes_of memory = reverse memory.history.changes.items

abbrev pub areas_of : Memory → Image
areas_of memory = record { pages = memory.pages.bytes.items; log = memory.log.bytes.items }

abbrev pub output_of : Memory → List ℕ
output_of memory = memory.output.bytes.items

abbrev pub present_of : Memory → Present
present_of memory = record { areas = areas_of memory; output = output_of memory; covered = memory.history.covered.items }

-- how long an area may become
abbrev pub most_of : Area → Memory → ℕ
most_of Pages memory = memory.pages.most
most_of Log memory = memory.log.most

-- how long the history is with one change more, which writes over so many bytes
abbrev pub history_with : ℕ → Memory → ℕ
history_with covered memory = 32 * (length memory.history.changes.items + 1) + (length memory.history.covered.items + covered)

-- The two have the same room.
pub record HasSameRoom (old new : Memory) : Type 0 where
  pub pages : new.pages.most ≡ old.pages.most
  pub log : new.log.most ≡ old.log.most
  pub output : new.output.most ≡ old.output.most
  pub history : new.history.room ≡ old.history.room

-- new is old with one change more, and the same input
pub record AddsChange (change : Change) (old new : Memory) : Type 0 where
  pub changes : changes_of new ≡ change ∷ changes_of old
  pub before : before change (present_of new) ≡ present_of old
  pub input : new.source ≡ old.source
  pub room : HasSameRoom old new

-- Areas and history have room for a write.
pub record HasRoomToWrite (area : Area) (at count : ℕ) (memory : Memory) : Type 0 where
  pub within : at + count ≤ most_of area memory
  pub history : history_with (covers at count (length (area_of area (areas_of memory)))) memory ≤ memory.history.room

-- The history has room for a sync.
abbrev pub HasRoomToSync : Memory → Type 0
HasRoomToSync memory = history_with 0 memory ≤ memory.history.room

-- Output and history have room for more output.
pub record HasRoomToEmit (count : ℕ) (memory : Memory) : Type 0 where
  pub output : length (output_of memory) + count ≤ memory.output.most
  pub history : history_with 0 memory ≤ memory.history.room
