-- What a call gives to the output that asks the areas beside it.
use Rattle.std.specs.Prelude.{◌≡◌, ◌↔◌, ◌≤◌, ℕ, List, ◌++◌, Option}
use Rattle.nx_host.specs.Disk.{Image, Keeps}
use Rattle.nx_host.specs.declared.disk.Disk.{Ghosts}
use Rattle.nx_host.specs.Host.{Appends, AppendsPrefix}
use Rattle.nx_host.specs.Time.{Elapses}

-- of so many bytes a block has fewer before a record is read
abbrev pub block_size : ℕ
block_size = 65536

-- From old to new the areas were asked, and the host was given output beside that.
pub record AsksAndGives {D : Type 0} (d : Ghosts D) (old new : D) : Type 0 where
  pub contents_stay : Keeps (d.contents old) (d.contents new)
  pub images_stay : (i : Image) → d.may_leave new i ↔ d.may_leave old i
  pub input_stays : Keeps (d.beside old).input (d.beside new).input
  pub in_faults_stay : (d.beside new).in_faults ≡ (d.beside old).in_faults
  pub out_faults_later : (d.beside old).out_faults ≤ (d.beside new).out_faults
  pub faults_later : d.faults old ≤ d.faults new

-- Of these bytes the first were given, and the others are left.
pub record AppendsBut (bytes left : List ℕ) (old new : Option (List ℕ)) : Type 0 where
  pub done : List ℕ
  pub parts : done ++ left ≡ bytes
  pub gave : Appends done old new

-- at each moment from old to new a first part of these bytes was out, and an image of old stood
abbrev pub GivesWithin : {D : Type 0} → Ghosts D → List ℕ → D → D → Type 0
GivesWithin d bytes old new = Elapses d.moment d.stood_since old new (λ s. AppendsPrefix bytes (d.beside old).output s.output × d.may_leave old s.image)

-- From a block and a host to others this text came behind the block, and all that the new block doesn't have was given.
pub record GivesText {D : Type 0} (d : Ghosts D) (block : List ℕ) (old : D) (text left : List ℕ) (new : D) : Type 0 where
  pub areas : AsksAndGives d old new
  pub gives : AppendsBut (block ++ text) left (d.beside old).output (d.beside new).output
  pub time : GivesWithin d (block ++ text) old new
