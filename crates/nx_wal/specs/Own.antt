-- The pairs of files that a log leaves.
use Rattle.std.specs.Prelude.{◌≡◌, ◌≢◌, ℕ, ◌<◌, ◌≤◌, List, [], length, get_or}
use Rattle.nx_numbers.specs.Sizes.{page_size}
use Rattle.nx_host.specs.Disk.{Image}
use Rattle.nx_host.specs.declared.disk.Disk.{Ghosts}
use Rattle.nx_host.specs.Still.{IsSettled}
use Rattle.nx_replay.specs.Log.{groups}

-- the log has no byte, or begins with 0 or 1, as a gate that is written does
abbrev pub BeginsWithGate : List ℕ → Type 0
BeginsWithGate log = get_or log 0 0 ≤ 1

-- Both files are such as this program leaves them: beside a page the log has a byte, and beside a part of one alone a
-- group, so that it begins with 1.
pub record IsOwn (image : Image) : Type 0 where
  pub begins : BeginsWithGate image.log
  pub has_log : page_size ≤ length image.pages → 0 < length image.log
  pub opened : 0 < length image.pages → length image.pages < page_size
      → (get_or image.log 0 0 ≡ 1) × (groups image.log ≢ [])

-- Where one image alone stood, the log of this one isn't shorter.
abbrev pub IsAsLong : {D : Type 0} → Ghosts D → D → Image → Type 0
IsAsLong d disk i = (was : Image) → IsSettled d disk was → length was.log ≤ length i.log
