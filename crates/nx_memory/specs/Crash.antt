-- What a crash makes of an area.
use Rattle.std.specs.Prelude.{ℕ, ◌+◌, ◌-◌, Bool, true, false, cond, List, [], ◌∷◌, ◌++◌, length, take, drop, min, replicate}
use Rattle.nx_host.specs.Disk.{Image, area_of}
use Rattle.nx_host.specs.declared.disk.Area.{Area}
use Rattle.nx_host.specs.declared.disk.Area.TheVariants.{Pages, Log}
use Rattle.nx_memory.specs.declared.history.Change.{Change}
use Rattle.nx_memory.specs.declared.history.Change.TheVariants.{Write, Sync, Emit}
use Rattle.nx_memory.specs.declared.image.Choice.{Choice}
use Rattle.nx_memory.specs.declared.image.Choice.TheVariants.{Kept, Lost, Ones}
use Rattle.nx_memory.specs.History.{Present, before}

abbrev pub is_area : Area → Area → Bool
is_area Pages Pages = true
is_area Pages Log = false
is_area Log Pages = false
is_area Log Log = true

-- an area after a write of which each byte became 1, with what lies between its old end and the write
abbrev pub ones_over : (at count : ℕ) → List ℕ → List ℕ
ones_over at count bytes = take (min at (length bytes)) bytes ++ (replicate (at + count - min at (length bytes)) 1 ++ drop (at + count) bytes)

-- an area after a write of which nothing came
abbrev pub nothing_over : (at count : ℕ) → List ℕ → List ℕ
nothing_over at count bytes = bytes

-- what a crash leaves in an area, where f says what comes of each write since its last sync
unfoldable pub crashed : (ℕ → ℕ → List ℕ → List ℕ) → Area → List Change → Present → List ℕ
crashed f area [] now = area_of area now.areas
crashed f area (Write a at count was ∷ earlier) now =
    let rest = crashed f area earlier (before (Write a at count was) now) in cond (is_area a area) (f at count rest) rest
crashed f area (Sync a ∷ earlier) now = cond (is_area a area) (area_of area now.areas) (crashed f area earlier now)
crashed f area (Emit was ∷ earlier) now = crashed f area earlier (before (Emit was) now)

-- the image that a crash leaves by this choice
abbrev pub crash_image : Choice → List Change → Present → Image
crash_image Kept changes now = now.areas
crash_image Lost changes now = record { pages = crashed nothing_over Pages changes now; log = crashed nothing_over Log changes now }
crash_image Ones changes now = record { pages = crashed ones_over Pages changes now; log = crashed ones_over Log changes now }
