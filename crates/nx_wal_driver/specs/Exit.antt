-- What the program tells of how a command ended.
use Rattle.std.specs.Prelude.{ℕ, List, Option, None, Some, codes}
use Rattle.nx_wal_driver.specs.declared.faults.Fault.{Fault}
use Rattle.nx_wal_driver.specs.declared.faults.Fault.TheVariants as fault

-- the exit status
abbrev pub fault_exit_number : Option Fault → ℕ
fault_exit_number None = 0
fault_exit_number (Some fault.Usage) = 1
fault_exit_number (Some fault.Exists) = 2
fault_exit_number (Some fault.TooFewPages) = 2
fault_exit_number (Some fault.Disk) = 3
fault_exit_number (Some fault.Write) = 5
fault_exit_number (Some fault.Memory) = 6
fault_exit_number (Some fault.NotAStore) = 7

-- the line on standard error, if there is one
abbrev pub fault_error_line : Option Fault → Option (List ℕ)
fault_error_line None = None
fault_error_line (Some fault.Usage) = Some (codes "usage: nx_wal_driver STORE create PAGES [SEED] | fill GROUPS PAGES [EVERY [SEED]] | dump | open")
fault_error_line (Some fault.TooFewPages) = Some (codes "too few pages")
fault_error_line (Some fault.Exists) = Some (codes "there are pages already")
fault_error_line (Some fault.Disk) = Some (codes "disk fault")
fault_error_line (Some fault.Write) = Some (codes "write fault")
fault_error_line (Some fault.Memory) = Some (codes "out of memory")
fault_error_line (Some fault.NotAStore) = Some (codes "not a store")
