-- The host in memory that never fails.
use Rattle.std.specs.Prelude.{◌≡◌, ◌⊎◌, true, false, Some}
use Rattle.nx_host.specs.Disk.{Image, Beside}
use Rattle.nx_host.specs.Time.{Stood, Elapses}
use Rattle.nx_memory.specs.declared.history.Change.{Change}
use Rattle.nx_memory.specs.declared.quiet.QuietHost.{QuietHost}
use Rattle.nx_memory.specs.History.{MayLeave}
use Rattle.nx_memory.specs.Source.{bytes_left}
use Rattle.nx_memory.specs.Memory.{changes_of, present_of, output_of, AddsChange}
use Rattle.nx_memory.specs.Quiet.{told_of, moment_at, QuietSince}

-- Where the host still tells what it holds, it told it before, there was room, and the change was added.
pub record GoesOnTelling (change : Change) (HasRoom : Type 0) (old new : QuietHost) : Type 0 where
  pub was_told : old.full ≡ false
  pub had_room : HasRoom
  pub adds : AddsChange change old.memory new.memory

-- Where it tells it no longer, that was so before or there was no room, and nothing changed.
pub record IsUsedUp (HasRoom : Type 0) (old new : QuietHost) : Type 0 where
  pub why : (old.full ≡ true) ⊎ (HasRoom → ⊥)
  pub memory_stays : new.memory ≡ old.memory

abbrev pub QuietMayLeave : QuietHost → Image → Type 0
QuietMayLeave host = MayLeave (changes_of host.memory) (present_of host.memory)

abbrev pub quiet_beside : QuietHost → Beside
quiet_beside host = record { input = Some (bytes_left host.memory.source); output = told_of host.full (output_of host.memory); in_faults = 0; out_faults = 0 }

abbrev pub QuietElapses : QuietHost → QuietHost → (Stood → Type 0) → Type 0
QuietElapses old new P =
    Elapses {D = QuietHost} (λ host. moment_at host.full (changes_of host.memory)) (λ host. QuietSince host.full (changes_of host.memory) (present_of host.memory)) old new P
