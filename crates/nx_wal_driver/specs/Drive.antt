-- How a command leaves the log that it drives.
use Rattle.std.specs.Prelude.{◌≡◌, [], false}
use Rattle.nx_wal.specs.Wal.{wal_ended, pending}
use Rattle.nx_wal.specs.declared.wal.Wal.{Wal}

-- No call failed, and no page waits.
pub record IsReady (wal : Wal) : Type 0 where
  pub goes_on : wal_ended wal ≡ false
  pub none_wait : pending wal ≡ []
