-- How the two calls of a shipment end, as a status, and as the line for a group that isn't applied.
use Rattle.std.specs.Prelude.{ℕ, List, Option, None, Some, Result, Ok, Err}
use Rattle.nx_ship.specs.declared.error.ShipError.{ShipError}
use Rattle.nx_ship.specs.declared.error.ShipError.TheVariants as error
use Rattle.nx_filters.specs.declared.status.Status.{Status}
use Rattle.nx_filters.specs.declared.status.Status.TheVariants.{Done, DiskFault, ReadFault, WriteFault, NoMemory, NotAStore, Damaged, TooMuch}
use Rattle.nx_front.specs.Shipping.{no_group_line}
use Rattle.nx_front.specs.Applied.{repeat_line, gap_line, base_line, stream_line}

-- the status, but for a refusal, where no other reason can be than these
abbrev pub shipping_status : Result (Unit {0}) ShipError → Status
shipping_status (Ok _) = Done
shipping_status (Err error.NotAStore) = NotAStore
shipping_status (Err (error.Damaged page)) = Damaged page
shipping_status (Err error.Disk) = DiskFault
shipping_status (Err error.Write) = WriteFault
shipping_status (Err _) = NoMemory

abbrev pub applying_status : Result (Unit {0}) ShipError → Status
applying_status (Ok _) = Done
applying_status (Err error.NotAStore) = NotAStore
applying_status (Err (error.Damaged page)) = Damaged page
applying_status (Err error.Disk) = DiskFault
applying_status (Err error.Read) = ReadFault
applying_status (Err error.Write) = WriteFault
applying_status (Err error.TooMuch) = TooMuch
applying_status (Err _) = NoMemory

-- the line for a number that no group has, where that is the reason
abbrev pub said_lacking : Result (Unit {0}) ShipError → Option (List ℕ)
said_lacking (Err (error.NoGroup from last)) = Some (no_group_line from last)
said_lacking _ = None

-- the line for what isn't applied, where that is the reason
abbrev pub turned_away_line : Result (Unit {0}) ShipError → Option (List ℕ)
turned_away_line (Err (error.Repeat number last)) = Some (repeat_line number last)
turned_away_line (Err (error.Gap number last)) = Some (gap_line number last)
turned_away_line (Err (error.Base number)) = Some (base_line number)
turned_away_line (Err (error.Stream offset)) = Some (stream_line offset)
turned_away_line _ = None
