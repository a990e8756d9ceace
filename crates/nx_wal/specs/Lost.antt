-- Pages that a disk lost whose pages area has none.
use Rattle.std.specs.Prelude.{◌≡◌, ℕ, ◌<◌, length, Option, Some, None, IsSome}
use Rattle.std.specs.BTreeMap.{get}
use Rattle.std.specs.Ordering.{nat_cmp}
use Rattle.nx_numbers.specs.Sizes.{page_size}
use Rattle.nx_host.specs.Disk.{Image}
use Rattle.nx_replay.specs.Log.{replay}
use Rattle.nx_wal.specs.Places.{Places}

-- The pages area has no page, and of the pages below a number this is the first that no group of the log has.
pub record IsFirstLost (page below : ℕ) (was : Image) : Type 0 where
  pub area : length was.pages < page_size
  pub low : page < below
  pub lacks : replay was page ≡ None
  pub each : (p : ℕ) → p < page → IsSome (replay was p)

-- Where the pages area has no page, a group of the log has each page below a number.
abbrev pub LosesNone : ℕ → Image → Type 0
LosesNone below was = length was.pages < page_size → (p : ℕ) → p < below → IsSome (replay was p)

-- this page is the first that is lost, or none is
abbrev pub Loses : Option ℕ → ℕ → Image → Type 0
Loses (Some page) below was = IsFirstLost page below was
Loses None below was = LosesNone below was

-- The log has the page.
pub record IsPlaced (places : Places) (page : ℕ) : Type 0 where
  pub at : ℕ
  pub there : get nat_cmp places page ≡ Some (Some at)

-- Of the pages below a number this is the first that the log doesn't have.
pub record IsFirstUnplaced (places : Places) (page below : ℕ) : Type 0 where
  pub low : page < below
  pub lacks : IsPlaced places page → ⊥
  pub each : (p : ℕ) → p < page → IsPlaced places p
