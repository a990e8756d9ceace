-- Which byte of a log is given to the disk once more before a session builds on it.
use Rattle.std.specs.Prelude.{◌≡◌, ℕ, List, [], ◌∷◌, Option, Some, None}
use Rattle.std.specs.List.{last_or}
use Rattle.nx_host.specs.Disk.{Image, IsRenewedLast}
use Rattle.nx_host.specs.declared.disk.Area.TheVariants.{Log}
use Rattle.nx_host.specs.declared.disk.Disk.{Ghosts}
use Rattle.nx_host.specs.Still.{IsSettled}
use Rattle.nx_replay.specs.Log.{groups}
use Rattle.nx_wal.specs.Places.{starts_from}

-- where the first byte stands, where there is one
abbrev pub first_byte : List ℕ → Option ℕ
first_byte [] = None
first_byte (b ∷ bs) = Some 0

-- the gate of the log's last group, else the log's first byte, where there is one
abbrev pub last_gate : List ℕ → Option ℕ
last_gate log = last_or (first_byte log) (starts_from 0 (groups log))

-- From old to new this byte of the log was renewed, and none behind it.
abbrev pub IsRenewed : {D : Type 0} → Ghosts D → D → D → Type 0
IsRenewed d old new =
    (was : Image) (at : ℕ) → IsSettled d old was → last_gate was.log ≡ Some at
    → IsRenewedLast Log at (d.renewed new)
