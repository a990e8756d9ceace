-- How far a walk has come, and why it stops.
use Rattle.std.specs.Prelude.{ℕ, ◌+◌, ◌≤◌, List, length}
use Rattle.nx_host.specs.Disk.{Image, Rose}
use Rattle.nx_host.specs.declared.disk.Disk.{Ghosts}
use Rattle.nx_replay.specs.Log.{replay}
use Rattle.nx_layouts.specs.Layout.{RecordPlace}
use Rattle.nx_rules.specs.declared.verdict.PageRule.{PageRule}
use Rattle.nx_rules.specs.Listed.{AreUsedOnce}
use Rattle.nx_check.specs.declared.error.Stop.{Stop}
use Rattle.nx_check.specs.declared.error.Stop.TheVariants as stop
use Rattle.nx_check.specs.declared.reading.Walk.{Walk}
use Rattle.nx_check.specs.Marks.{AreMarked}
use Rattle.nx_check.specs.On.{IsOn}

-- The disk stands for this image; these pages are free, lists use these, each once, and these records were reached. Each of them took one read at most, behind so many.
pub record HasCome {D : Type 0} (d : Ghosts D) (walk : Walk) (disk : D) (was : Image) (base : ℕ) (free used : List ℕ) (reached : List RecordPlace) : Type 0 where
  pub on : IsOn d walk disk was
  pub marked : AreMarked walk.uses walk.left (replay was) free used reached
  pub once : AreUsedOnce used
  pub reads : d.reads disk ≤ base + length free + length used + length reached

-- Why a walk stops: it says that a rule is broken, and a page is to blame; a call of the disk failed; or for want of memory.
abbrev pub StopsSo : {D : Type 0} → Ghosts D → D → D → (PageRule → ℕ → Type 0) → Stop → Type 0
StopsSo d before after Says (stop.Broken page rule) = Says rule page
StopsSo d before after Says stop.Disk = Rose (d.faults before) (d.faults after)
StopsSo d before after Says stop.Memory = Unit {0}
