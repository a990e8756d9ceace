-- What calls over a disk do to it, by its contents, its images and its moments.
use Rattle.std.specs.Prelude.{◌≡◌, ◌↔◌, ◌≤◌, Some, IsSome}
use Rattle.nx_host.specs.Disk.{Image, Keeps, LeavesBeside}
use Rattle.nx_host.specs.Time.{Elapses}
use Rattle.nx_host.specs.declared.disk.Disk.{Ghosts}

-- From old to new the disk was asked alone, or given a byte once more that it had.
pub record IsStill {D : Type 0} (d : Ghosts D) (old new : D) : Type 0 where
  pub contents_stay : d.contents new ≡ d.contents old
  pub images_stay : (i : Image) → d.may_leave new i ↔ d.may_leave old i
  pub beside_stays : LeavesBeside (d.beside old) (d.beside new)
  pub faults_later : d.faults old ≤ d.faults new
  pub reads_later : d.reads old ≤ d.reads new
  pub time : Elapses d.moment d.stood_since old new (λ s. Keeps (d.beside old).output s.output × d.may_leave old s.image)

-- From old to new the areas alone were asked and written. Where the contents are still told, each image that stood has P.
pub record WritesAlone {D : Type 0} (d : Ghosts D) (old new : D) (P : Image → Type 0) : Type 0 where
  pub told : IsSome (d.contents new) → IsSome (d.contents old)
  pub beside_stays : LeavesBeside (d.beside old) (d.beside new)
  pub faults_later : d.faults old ≤ d.faults new
  pub reads_later : d.reads old ≤ d.reads new
  pub time : Elapses d.moment d.stood_since old new (λ s. Keeps (d.beside old).output s.output × (IsSome (d.contents new) → P s.image))

-- The disk has this image, and a crash leaves this one alone.
pub record IsSettled {D : Type 0} (d : Ghosts D) (disk : D) (image : Image) : Type 0 where
  pub here : d.contents disk ≡ Some image
  pub only : (i : Image) → d.may_leave disk i → i ≡ image
