-- What a commit does.
use Rattle.std.specs.Prelude.{◌≡◌, ℕ, ◌+◌, ◌^◌, ◌<◌, Bool, true, List, [], ◌∷◌, ◌++◌, length, drop, ◌==◌, false}
use Rattle.nx_host.specs.Disk.{Image}
use Rattle.nx_host.specs.declared.disk.Disk.{Ghosts}
use Rattle.nx_host.specs.Still.{IsSettled}
use Rattle.nx_replay.specs.Log.{Group, group_bytes, group_size, IsWhole, IsLogEnd}

-- the disk has this image alone, and its log ends here
pub record IsOpened {D : Type 0} (d : Ghosts D) (end : ℕ) (shut : Bool) (disk : D) (image : Image) : Type 0 where
  pub settled : IsSettled d disk image
  pub at : IsLogEnd end shut image.log
  pub low : end < 2 ^ 63

-- these bytes are a group that can be written there, and the closed gate behind it
pub record IsBody (g : Group) (end : ℕ) (body : List ℕ) : Type 0 where
  pub whole : IsWhole g
  pub bytes : body ≡ group_bytes g ++ 0 ∷ []
  pub low : end + group_size (length g.entries) < 2 ^ 63

-- a closed gate stands where the log ends, this group behind it, and a closed gate behind that
pub record IsStaged (g : Group) (end : ℕ) (log : List ℕ) : Type 0 where
  pub gate : ℕ
  pub rest : List ℕ
  pub bytes : drop end log ≡ gate ∷ (group_bytes g ++ 0 ∷ rest)
  pub shut : (gate == 1) ≡ false
  pub low : end + group_size (length g.entries) < 2 ^ 63

pub record IsGroupLaid {D : Type 0} (d : Ghosts D) (g : Group) (end : ℕ) (disk : D) (image : Image) : Type 0 where
  pub opened : IsOpened d end true disk image
  pub whole : IsWhole g
  pub staged : IsStaged g end image.log
