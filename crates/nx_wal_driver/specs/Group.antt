-- The pages of a group.
use Rattle.std.specs.Prelude.{◌≡◌, ◌<◌, ℕ, ◌+◌, ◌-◌, ◌*◌, ◌^◌, ◌%◌, ◌==◌, if◌then◌else◌, Some}
use Rattle.nx_replay.specs.Log.{Pages}
use Rattle.nx_wal_driver.specs.Stamp.{stamped_bytes}
use Rattle.nx_wal_driver.specs.declared.commands.Filling.{Filling}
use Rattle.nx_wal_driver.specs.declared.stamps.Stamp.{Stamp}

-- which page of so many the i-th of a group is: page 0, and then others behind each other, as on a ring
unfoldable pub page_on_ring : ℕ → ℕ → ℕ → ℕ → ℕ
page_on_ring seed group count i = if i == 0 then 0 else 1 + ((group * 7919 % 2 ^ 64 + seed) % 2 ^ 64 % (count - 1) + i) % (count - 1)

-- the stamp of the i-th page of a group, in a store of so many pages
abbrev pub stamp_at : Filling → ℕ → ℕ → ℕ → Stamp
stamp_at filling group count i = record { seed = filling.seed; group = group; page = page_on_ring filling.seed group count i }

-- The page of this stamp is one of these pages.
abbrev pub IsThere : Stamp → Pages → Type 0
IsThere stamp pages = pages stamp.page ≡ Some (stamped_bytes stamp)

-- So many pages of a group are there.
abbrev pub AreThere : Filling → ℕ → ℕ → ℕ → Pages → Type 0
AreThere filling group count many pages = (i : ℕ) → i < many → IsThere (stamp_at filling group count i) pages
