use Rattle.std.proofs.Common.{◌≡◌, ◌*◌, take, length}
use Rattle.nx_wal_driver.specs.Stamp.{units}
use Rattle.nx_wal_driver.proofs.stamps.write_units.Given as goal

-- the units so far
abbrev pub invariant-loop-i : goal.invariant-loop-i
invariant-loop-i l = record { long : length l.bytes ≡ 8192; written : take (32 * l.i) l.bytes ≡ units l.stamp l.i }
