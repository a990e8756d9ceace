-- The host in memory that fails as it is told to.
use Rattle.std.specs.Prelude.{◌≡◌, ◌⊎◌, ◌↔◌, ℕ, ◌+◌, ◌-◌, ◌^◌, ◌<◌, Bool, true, false, List, [], length, map, min}
use Rattle.nx_host.specs.Disk.{Image, Place, area_of}
use Rattle.nx_host.specs.declared.disk.Area.{Area}
use Rattle.nx_memory.specs.declared.calls.Calls.{Calls}
use Rattle.nx_memory.specs.declared.calls.Counts.{Counts}
use Rattle.nx_memory.specs.declared.host.MemoryHost.{MemoryHost}
use Rattle.nx_memory.specs.Calls.{fails, next_call_number, IsNext}
use Rattle.nx_host.specs.Time.{Stood, Elapses}
use Rattle.nx_memory.specs.History.{MayLeave, StoodSince}
use Rattle.nx_memory.specs.declared.image.Image as given
use Rattle.nx_memory.specs.declared.memory.Memory.{Memory}
use Rattle.nx_memory.specs.declared.renewals.Renewals.{Renewals}
use Rattle.nx_memory.specs.Source.{bytes_left}
use Rattle.nx_memory.specs.Memory.{changes_of, present_of, areas_of, output_of}

-- whether the next call is to fail
abbrev pub next_fails : MemoryHost → Bool
next_fails host = fails (next_call_number host.calls) host.calls

-- a count that rose by one, up to 2^64 - 1
abbrev pub raised : ℕ → ℕ
raised count = min (count + 1) (2 ^ 64 - 1)

-- the bytes that were renewed, in order
abbrev pub renewed_of : Renewals → List Place
renewed_of renewals = map (λ r. record { area = r.area; at = r.at }) renewals.bytes.items

-- The area has the byte, and there is room to note it.
pub record MayBeRenewed (area : Area) (at : ℕ) (host : MemoryHost) : Type 0 where
  pub here : at < length (area_of area (areas_of host.memory))
  pub room : length host.renewals.bytes.items < 64

-- A call failed: it left these counts, and all else as it was.
pub record FailsCall (counts : Counts) (old new : MemoryHost) : Type 0 where
  pub next : IsNext old.calls new.calls
  pub counts_are : new.counts ≡ counts
  pub memory_stays : new.memory ≡ old.memory
  pub piece_stays : new.piece ≡ old.piece

-- A call that wasn't to fail and had room was made: it left these counts.
pub record Passes (counts : Counts) (HasRoom : Type 0) (old new : MemoryHost) : Type 0 where
  pub not_failing : next_fails old ≡ false
  pub had_room : HasRoom
  pub next : IsNext old.calls new.calls
  pub counts_are : new.counts ≡ counts
  pub piece_stays : new.piece ≡ old.piece

-- Why a call fails: it is to fail, or has no room.
abbrev pub MayFail : Type 0 → MemoryHost → Type 0
MayFail HasRoom host = (next_fails host ≡ true) ⊎ (HasRoom → ⊥)

-- Time goes on from old to new, and what is added to what stood has P.
abbrev pub HostElapses : MemoryHost → MemoryHost → (Stood → Type 0) → Type 0
HostElapses old new P = Elapses {D = MemoryHost} (λ host. length (changes_of host.memory)) (λ host. StoodSince (changes_of host.memory) (present_of host.memory)) old new P

-- the images that a crash may leave
abbrev pub HostMayLeave : MemoryHost → Image → Type 0
HostMayLeave host = MayLeave (changes_of host.memory) (present_of host.memory)

-- each of these images is one of those
abbrev pub AreAmong : (these those : Image → Type 0) → Type 0
AreAmong these those = (image : Image) → these image → those image

-- these images are those
abbrev pub AreSame : (these those : Image → Type 0) → Type 0
AreSame these those = (image : Image) → these image ↔ those image

-- the areas that an image gives
abbrev pub areas_in : given.Image → Image
areas_in image = record { pages = image.pages; log = image.log }

-- A memory of these areas and this input, to which nothing was done.
pub record IsFresh (image : given.Image) (input : List ℕ) (memory : Memory) : Type 0 where
  pub areas_are : areas_of memory ≡ areas_in image
  pub unchanged : changes_of memory ≡ []
  pub no_output : output_of memory ≡ []
  pub input_is : bytes_left memory.source ≡ input

-- The host has these areas, and a crash leaves no others.
pub record HasOnly (host : MemoryHost) (areas : Image) : Type 0 where
  pub here : areas_of host.memory ≡ areas
  pub only : (image : Image) → HostMayLeave host image → image ≡ areas

-- Each area may grow by so many bytes, and the output and the history take so many.
pub record HasRoomToGrow (room : ℕ) (image : given.Image) (memory : Memory) : Type 0 where
  pub pages : memory.pages.most ≡ length image.pages + room
  pub log : memory.log.most ≡ length image.log + room
  pub output : memory.output.most ≡ room
  pub history : memory.history.room ≡ room

-- No call is to fail.
abbrev pub NoneFails : Calls → Type 0
NoneFails calls = (number : ℕ) → number < 2 ^ 64 → fails number calls ≡ false

abbrev pub no_counts : Counts
no_counts = record { faults = 0; in_faults = 0; out_faults = 0; reads = 0 }
