-- What is written behind a log's end.
use Rattle.std.specs.Prelude.{◌≡◌, ℕ, ◌+◌, ◌≤◌, List, [], ◌∷◌, ◌++◌, length, map, take, drop, Some}
use Rattle.nx_host.specs.Disk.{Image, ComesTorn, WritesTo}
use Rattle.nx_host.specs.declared.disk.Area.TheVariants.{Log}
use Rattle.nx_host.specs.declared.disk.Disk.{Ghosts}
use Rattle.byteorder.specs.Endian.{big_bytes}
use Rattle.nx_host.specs.Still.{WritesAlone}
use Rattle.nx_replay.specs.Log.{Entry, Group, group_bytes}
use Rattle.nx_wal.specs.Places.{Kept}

-- pages as the entries of a group
abbrev pub entries_of : List (ℕ × Kept) → List Entry
entries_of es = map (λ e. record { page = e.0; bytes = e.1.value.bytes }) es

-- the group that these pages make
abbrev pub group_with : ℕ → List (ℕ × Kept) → Group
group_with number es = record { number = number; entries = entries_of es }

-- its bytes behind its gate, and the closed gate behind them
abbrev pub body_of : ℕ → List (ℕ × Kept) → List ℕ
body_of number es = group_bytes (group_with number es) ++ 0 ∷ []

-- its number and the count of its pages
abbrev pub head_of : ℕ → ℕ → List ℕ
head_of number count = big_bytes 8 number ++ big_bytes 4 count

-- The log was written in one range, which no sync has made durable.
pub record Writes {D : Type 0} (d : Ghosts D) (at n : ℕ) (old new : D) : Type 0 where
  pub goes : WritesAlone d old new (ComesTorn Log at n (d.may_leave old))
  pub images : (i : Image) → d.may_leave new i → ComesTorn Log at n (d.may_leave old) i
  pub reads_stay : d.reads new ≡ d.reads old

-- Where they are told, and the offset isn't past the end, these bytes were written there.
pub record Lays {D : Type 0} (d : Ghosts D) (at : ℕ) (bytes : List ℕ) (old new : D) : Type 0 where
  pub written : (was now : Image) → d.contents old ≡ Some was → d.contents new ≡ Some now → at ≤ length was.log → WritesTo Log at bytes was now

-- The log is the same up to the offset, and these bytes stand behind one byte there.
pub record StandsBehind (at : ℕ) (bytes : List ℕ) (was now : Image) : Type 0 where
  pub prefix : take at now.log ≡ take at was.log
  pub behind : take (length bytes) (drop (at + 1) now.log) ≡ bytes
