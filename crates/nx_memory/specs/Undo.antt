-- How an area is taken back to its last sync, and what was written since filled.
use Rattle.std.specs.Prelude.{ℕ, ◌-◌, Bool, false, cond, List, [], ◌∷◌, length, take, drop}
use Rattle.nx_host.specs.declared.disk.Area.{Area}
use Rattle.nx_memory.specs.declared.history.Change.{Change}
use Rattle.nx_memory.specs.declared.history.Change.TheVariants.{Write, Sync, Emit}
use Rattle.nx_memory.specs.declared.image.Choice.{Choice}
use Rattle.nx_memory.specs.declared.image.Choice.TheVariants.{Kept, Lost, Ones}
use Rattle.nx_memory.specs.History.{covers, spliced}
use Rattle.nx_memory.specs.Crash.{is_area, ones_over}

-- whether a change is a sync of this area
abbrev pub syncs : Area → Change → Bool
syncs area (Write a at count was) = false
syncs area (Sync a) = is_area a area
syncs area (Emit was) = false

-- the changes since the last sync of an area, the last one first
unfoldable pub since : Area → List Change → List Change
since area [] = []
since area (change ∷ earlier) = cond (syncs area change) [] (change ∷ since area earlier)

-- of the bytes that were written over by a change and those before it, how many those before it wrote over
abbrev pub kept_by : Change → ℕ → ℕ
kept_by (Write a at count was) covered = covered - covers at count was
kept_by (Sync a) covered = covered
kept_by (Emit was) covered = covered

-- an area before a change
abbrev pub undone : Area → Change → (bytes covered : List ℕ) → List ℕ
undone area (Write a at count was) bytes covered =
    cond (is_area a area) (take was (spliced at (drop (length covered - covers at count was) covered) bytes)) bytes
undone area (Sync a) bytes covered = bytes
undone area (Emit was) bytes covered = bytes

-- an area before all of these changes
unfoldable pub undone_all : Area → List Change → (bytes covered : List ℕ) → List ℕ
undone_all area [] bytes covered = bytes
undone_all area (change ∷ earlier) bytes covered = undone_all area earlier (undone area change bytes covered) (take (kept_by change (length covered)) covered)

-- an area after a change that wrote nothing but ones
abbrev pub filled : Area → Change → List ℕ → List ℕ
filled area (Write a at count was) bytes = cond (is_area a area) (ones_over at count bytes) bytes
filled area (Sync a) bytes = bytes
filled area (Emit was) bytes = bytes

-- an area after all of these changes, if they did so
unfoldable pub filled_all : Area → List Change → List ℕ → List ℕ
filled_all area [] bytes = bytes
filled_all area (change ∷ earlier) bytes = filled area change (filled_all area earlier bytes)

-- an area as a crash leaves it by a choice, of what it holds and what the changes wrote over
abbrev pub area_by : Choice → Area → List Change → (bytes covered : List ℕ) → List ℕ
area_by Kept area changes bytes covered = bytes
area_by Lost area changes bytes covered = undone_all area (since area changes) bytes covered
area_by Ones area changes bytes covered = filled_all area (since area changes) (undone_all area (since area changes) bytes covered)
