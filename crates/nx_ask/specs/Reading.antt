-- How the pages of a store are read into one list of bytes.
use Rattle.std.specs.Prelude.{◌≡◌, ℕ, ◌*◌, ◌<◌, List, ◌++◌, length, take, drop, Some, None}
use Rattle.nx_host.specs.Disk.{Image, Rose}
use Rattle.nx_host.specs.declared.disk.Disk.{Ghosts}
use Rattle.nx_numbers.specs.Sizes.{page_size}
use Rattle.nx_replay.specs.Log.{Pages, replay}
use Rattle.nx_wal.specs.Wal.{IsInStep}
use Rattle.nx_wal.specs.declared.wal.Wal.{Wal}
use Rattle.nx_ask.specs.declared.error.AskError.{AskError}
use Rattle.nx_ask.specs.declared.error.AskError.TheVariants as error

-- the bytes are so many of these pages, one behind the other from the first on
pub record AreFirstPages (bytes : List ℕ) (count : ℕ) (pages : Pages) : Type 0 where
  pub long : length bytes ≡ page_size * count
  pub each : (p : ℕ) → p < count → pages p ≡ Some (take page_size (drop (page_size * p) bytes))

-- the bytes have grown by this page
pub record AddsPage (pages : Pages) (page : ℕ) (old new : List ℕ) : Type 0 where
  pub added : List ℕ
  pub there : pages page ≡ Some added
  pub long : length added ≡ page_size
  pub behind : new ≡ old ++ added

-- Why pages below this number weren't read: for a page there is none.
abbrev pub NotCopied : {D : Type 0} → Ghosts D → AskError → Wal → ℕ → D → D → Type 0
NotCopied d error.Disk wal count before after = Rose (d.faults before) (d.faults after)
NotCopied d (error.Damaged page) wal count before after = (page < count) × ((was : Image) → IsInStep d wal before was → replay was page ≡ None)
NotCopied d error.Memory wal count before after = Unit {0}
NotCopied d error.NotAStore wal count before after = ⊥
