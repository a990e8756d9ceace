use Rattle.std.proofs.Common.{◌≡◌, ◌≢◌, ◌<◌, [], false}
use Rattle.nx_wal.specs.Wal.{wal_ended, length_of, pending}
use Rattle.nx_wal_driver.proofs.driving.put_all.Given as goal

-- no call failed; some page waits once one was put
abbrev pub invariant-loop-page : goal.invariant-loop-page
invariant-loop-page l = record {
  goes_on : wal_ended l.wal ≡ false;
  same_length : length_of l.wal ≡ length_of l.initial.wal;
  some : 0 < l.page → pending l.wal ≢ [];
}
