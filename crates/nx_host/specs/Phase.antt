-- Phases of a run over a host: it takes from the input, or gives to the output, or both in turn. All of them leave the disk.
use Rattle.std.specs.Prelude.{◌≡◌, ◌↔◌, ◌≤◌, ℕ, List, Option}
use Rattle.nx_host.specs.Disk.{Image, Keeps}
use Rattle.nx_host.specs.Host.{AppendsPrefix}
use Rattle.nx_host.specs.Time.{Elapses}
use Rattle.nx_host.specs.declared.disk.Disk.{Ghosts}

-- From old to new the areas were neither asked nor written. At every moment an image of old stood, beside an output that has P.
pub record LeavesAreas {D : Type 0} (d : Ghosts D) (old new : D) (P : Option (List ℕ) → Type 0) : Type 0 where
  pub contents_stay : Keeps (d.contents old) (d.contents new)
  pub images_stay : (i : Image) → d.may_leave new i ↔ d.may_leave old i
  pub faults_stay : d.faults new ≡ d.faults old
  pub reads_stay : d.reads new ≡ d.reads old
  pub in_faults_later : (d.beside old).in_faults ≤ (d.beside new).in_faults
  pub out_faults_later : (d.beside old).out_faults ≤ (d.beside new).out_faults
  pub time : Elapses d.moment d.stood_since old new (λ s. P s.output × d.may_leave old s.image)

-- From old to new the host was asked for input and given output alone, at every moment a prefix of these bytes.
abbrev pub TalksAlone : {D : Type 0} → Ghosts D → List ℕ → D → D → Type 0
TalksAlone d bytes old new = LeavesAreas d old new (AppendsPrefix bytes (d.beside old).output)

-- From old to new the host was asked for input alone.
pub record TakesAlone {D : Type 0} (d : Ghosts D) (old new : D) : Type 0 where
  pub areas : LeavesAreas d old new (Keeps (d.beside old).output)
  pub contents_stay : d.contents new ≡ d.contents old
  pub output_stays : (d.beside new).output ≡ (d.beside old).output
  pub out_faults_stay : (d.beside new).out_faults ≡ (d.beside old).out_faults

-- From old to new the host was given output alone, at every moment a prefix of these bytes.
pub record GivesAlone {D : Type 0} (d : Ghosts D) (bytes : List ℕ) (old new : D) : Type 0 where
  pub areas : TalksAlone d bytes old new
  pub input_stays : (d.beside new).input ≡ (d.beside old).input
  pub in_faults_stay : (d.beside new).in_faults ≡ (d.beside old).in_faults
