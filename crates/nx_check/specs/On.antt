-- A walk over the pages that an image stands for.
use Rattle.std.specs.Prelude.{◌≡◌, [], Some}
use Rattle.std.specs.Option.{MatchOption}
use Rattle.nx_host.specs.Disk.{Image, Rose}
use Rattle.nx_host.specs.declared.disk.Disk.{Ghosts}
use Rattle.nx_replay.specs.Log.{replay}
use Rattle.nx_wal.specs.Wal.{IsInStep, pending}
use Rattle.nx_rules.specs.Broken.{IsFirstBroken}
use Rattle.nx_check.specs.declared.error.Stop.{Stop}
use Rattle.nx_check.specs.declared.error.Stop.TheVariants as stop
use Rattle.nx_check.specs.declared.reading.Walk.{Walk}

-- The disk stands for this image, nothing waits, and the page that was read last is as it is.
pub record IsOn {D : Type 0} (d : Ghosts D) (walk : Walk) (disk : D) (was : Image) : Type 0 where
  pub step : IsInStep d walk.wal disk was
  pub none : pending walk.wal ≡ []
  pub page : MatchOption walk.at (Unit {0}) (λ p. replay was p ≡ Some walk.page.bytes)

-- Why a walk stops: the pages break this rule first, where the image is one of these; a call of the disk failed; or for want of memory.
abbrev pub StopsWalk : {D : Type 0} → Ghosts D → D → D → (Image → Type 0) → Stop → Type 0
StopsWalk d before after Is (stop.Broken page rule) = (was : Image) → Is was → IsFirstBroken (replay was) rule page
StopsWalk d before after Is stop.Disk = Rose (d.faults before) (d.faults after)
StopsWalk d before after Is stop.Memory = Unit {0}
