-- Why a command ended early.
use Rattle.std.specs.Prelude.{◌≤◌}
use Rattle.nx_host.specs.Disk.{Rose}
use Rattle.nx_host.specs.declared.disk.Disk.{Ghosts}
use Rattle.nx_wal.specs.declared.error.WalError.{WalError}
use Rattle.nx_wal.specs.declared.error.WalError.TheVariants as error
use Rattle.nx_wal_driver.specs.declared.faults.Fault.{Fault}
use Rattle.nx_wal_driver.specs.declared.faults.Fault.TheVariants as fault

-- what a refusal of the log is told as
abbrev pub told_fault : WalError → Fault
told_fault error.Disk = fault.Disk
told_fault error.Ended = fault.Disk
told_fault error.Exists = fault.Exists
told_fault error.NotAStore = fault.NotAStore
told_fault error.Memory = fault.Memory

-- A fault of the disk or of the output comes only where that count rose.
abbrev pub HasCause : {D : Type 0} → Ghosts D → Fault → D → D → Type 0
HasCause d fault.Disk before after = Rose (d.faults before) (d.faults after)
HasCause d fault.Write before after = Rose (d.beside before).out_faults (d.beside after).out_faults
HasCause d fault.Usage before after = ⊥
HasCause d fault.TooFewPages before after = Unit {0}
HasCause d fault.Exists before after = Unit {0}
HasCause d fault.Memory before after = Unit {0}
HasCause d fault.NotAStore before after = Unit {0}

-- Neither count fell.
pub record FaultCountsGrow {D : Type 0} (d : Ghosts D) (before after : D) : Type 0 where
  pub faults : d.faults before ≤ d.faults after
  pub out_faults : (d.beside before).out_faults ≤ (d.beside after).out_faults
