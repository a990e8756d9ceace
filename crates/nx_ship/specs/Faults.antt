-- The errors of calls below as those of a shipment.
use Rattle.nx_host.specs.declared.input.InputError.{InputError}
use Rattle.nx_host.specs.declared.input.InputError.TheVariants as input
use Rattle.nx_wal.specs.declared.error.WalError.{WalError}
use Rattle.nx_wal.specs.declared.error.WalError.TheVariants as wal
use Rattle.nx_ship.specs.declared.error.ShipError.{ShipError}
use Rattle.nx_ship.specs.declared.error.ShipError.TheVariants.{Read, TooMuch, Disk, Memory}

abbrev pub error_of_input : InputError → ShipError
error_of_input input.Read = Read
error_of_input input.TooMuch = TooMuch

-- where no other reason can be than these two
abbrev pub error_of_log : WalError → ShipError
error_of_log wal.Disk = Disk
error_of_log wal.Exists = Memory
error_of_log wal.NotAStore = Memory
error_of_log wal.Ended = Memory
error_of_log wal.Memory = Memory
