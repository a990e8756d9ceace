use Rattle.std.proofs.Common.{◌≡◌, ◌≢◌, ◌<◌, ℕ, List, [], false}
use Rattle.nx_replay.specs.Log.{entry_pages}
use Rattle.nx_wal.specs.Wal.{Follows, wal_ended, length_of, pending}
use Rattle.nx_wal_driver.specs.Group.{AreThere}
use Rattle.nx_wal_driver.proofs.driving.put_pages.Given as goal

-- the pages so far wait, and the log is followed as before
abbrev pub invariant-loop-i : goal.invariant-loop-i
invariant-loop-i l = record {
  there : AreThere l.filling l.group l.count l.i (entry_pages (pending l.wal));
  follows : (log : List ℕ) → Follows l.initial.wal log → Follows l.wal log;
  goes_on : wal_ended l.wal ≡ false;
  same_length : length_of l.wal ≡ length_of l.initial.wal;
  some : 0 < l.i → pending l.wal ≢ [];
}
