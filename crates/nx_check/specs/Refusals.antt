-- Why a store wasn't checked, and what a walk tells that stops.
use Rattle.std.specs.Prelude.{Result, Ok, Err}
use Rattle.nx_host.specs.Disk.{Image, Rose}
use Rattle.nx_host.specs.declared.disk.Disk.{Ghosts}
use Rattle.nx_host.specs.Still.{IsSettled}
use Rattle.nx_replay.specs.Log.{replay, HasMark}
use Rattle.nx_wal.specs.declared.error.WalError.{WalError}
use Rattle.nx_wal.specs.declared.error.WalError.TheVariants as wal
use Rattle.nx_rules.specs.declared.verdict.Verdict.{Verdict}
use Rattle.nx_rules.specs.declared.verdict.Verdict.TheVariants.{Wrong}
use Rattle.nx_check.specs.declared.error.CheckError.{CheckError}
use Rattle.nx_check.specs.declared.error.CheckError.TheVariants as error
use Rattle.nx_check.specs.declared.error.Stop.{Stop}
use Rattle.nx_check.specs.declared.error.Stop.TheVariants as stop

abbrev pub NotChecked : {D : Type 0} → Ghosts D → CheckError → D → D → Type 0
NotChecked d error.NotAStore before after = (was : Image) → IsSettled d before was → HasMark (replay was) → ⊥
NotChecked d error.Disk before after = Rose (d.faults before) (d.faults after)
NotChecked d error.Memory before after = Unit {0}

-- a walk gives up since a call of the disk failed, or for want of memory
abbrev pub HasNoVerdict : {D : Type 0} → Ghosts D → CheckError → D → D → Type 0
HasNoVerdict d error.NotAStore before after = ⊥
HasNoVerdict d error.Disk before after = Rose (d.faults before) (d.faults after)
HasNoVerdict d error.Memory before after = Unit {0}

-- why a store isn't checked whose log isn't opened
abbrev pub refusal_of : WalError → CheckError
refusal_of wal.NotAStore = error.NotAStore
refusal_of wal.Memory = error.Memory
refusal_of _ = error.Disk

-- what is told where a walk stops
abbrev pub told_of_stop : Stop → Result Verdict CheckError
told_of_stop (stop.Broken page rule) = Ok (Wrong page rule)
told_of_stop stop.Disk = Err error.Disk
told_of_stop stop.Memory = Err error.Memory
