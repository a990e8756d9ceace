use Rattle.nx_wal_driver.specs.Drive.{IsReady}
use Rattle.nx_wal_driver.specs.Fault.{FaultCountsGrow}
use Rattle.nx_wal_driver.proofs.driving.fill.Given as goal

-- the log is ready for a group, and no count has fallen
abbrev pub invariant-loop-i : goal.invariant-loop-i
invariant-loop-i g l = record {
  ready : IsReady l.wal;
  grow : FaultCountsGrow g.H.Disk l.fn.host l.host;
}
