-- What the history of a disk in memory tells of its moments. The changes stand in it with the last one first.
use Rattle.std.specs.Prelude.{◌≡◌, ◌⊎◌, ℕ, ◌+◌, ◌-◌, ◌≤◌, List, [], ◌∷◌, ◌++◌, length, take, drop, min, Some}
use Rattle.nx_host.specs.Disk.{Image, HoldsBytes, TearsIn, ComesTorn, area_of}
use Rattle.nx_host.specs.Time.{Stood}
use Rattle.nx_host.specs.declared.disk.Area.{Area}
use Rattle.nx_host.specs.declared.disk.Area.TheVariants.{Pages, Log}
use Rattle.nx_memory.specs.declared.history.Change.{Change}
use Rattle.nx_memory.specs.declared.history.Change.TheVariants.{Write, Sync, Emit}

-- both areas, the output, and the bytes that the changes wrote over, those of the last one at the end
pub record Present : Type 0 where
  pub areas : Image
  pub output : List ℕ
  pub covered : List ℕ

-- an image with other bytes in one area
abbrev pub with_area : Area → List ℕ → Image → Image
with_area Pages bytes image = record { pages = bytes; log = image.log }
with_area Log bytes image = record { pages = image.pages; log = bytes }

-- these bytes in place of those at an offset
abbrev pub spliced : ℕ → List ℕ → List ℕ → List ℕ
spliced at bytes list = take at list ++ (bytes ++ drop (at + length bytes) list)

-- how many bytes a write of so many covers, at an offset of an area that has so many
abbrev pub covers : (at count was : ℕ) → ℕ
covers at count was = min count (was - at)

-- what there was before a change
abbrev pub before : Change → Present → Present
before (Write area at count was) now =
    let kept = length now.covered - covers at count was in
    record {
      areas = with_area area (take was (spliced at (drop kept now.covered) (area_of area now.areas))) now.areas;
      output = now.output;
      covered = take kept now.covered;
    }
before (Sync area) now = now
before (Emit was) now = record { areas = now.areas; output = take was now.output; covered = now.covered }

-- The images that a crash may leave after these changes: those before a write, torn by it; of those before a sync the ones that have the area as the contents have it.
unfoldable pub MayLeave : List Change → Present → Image → Type 0
MayLeave [] now image = image ≡ now.areas
MayLeave (Write area at count was ∷ earlier) now image =
    HoldsBytes image × ComesTorn area at count (MayLeave earlier (before (Write area at count was) now)) image
MayLeave (Sync area ∷ earlier) now image = MayLeave earlier now image × (area_of area image ≡ area_of area now.areas)
MayLeave (Emit was ∷ earlier) now image = MayLeave earlier (before (Emit was) now) image

-- After these changes there is this output, and a crash may leave this image.
pub record StandsNow (changes : List Change) (now : Present) (s : Stood) : Type 0 where
  pub output : s.output ≡ Some now.output
  pub image : MayLeave changes now s.image

-- That was so at some moment from t on. A moment is the number of changes until then.
unfoldable pub StoodSince : List Change → Present → ℕ → Stood → Type 0
StoodSince [] now t s = StandsNow [] now s
StoodSince (change ∷ earlier) now t s = StandsNow (change ∷ earlier) now s ⊎ ((t ≤ length earlier) × StoodSince earlier (before change now) t s)

-- A write tore its area from what stood there before.
abbrev pub IsTear : Change → Present → Type 0
IsTear (Write area at count was) now = TearsIn area at count (before (Write area at count was) now).areas now.areas
IsTear (Sync area) now = Unit {0}
IsTear (Emit was) now = Unit {0}

-- Each write did so, and the areas held bytes at every moment.
unfoldable pub IsHistory : List Change → Present → Type 0
IsHistory [] now = HoldsBytes now.areas
IsHistory (change ∷ earlier) now = HoldsBytes now.areas × IsTear change now × IsHistory earlier (before change now)
