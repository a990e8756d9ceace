use Rattle.nx_wal_driver.specs.Drive.{IsReady}
use Rattle.nx_wal_driver.specs.Fault.{FaultCountsGrow}
use Rattle.nx_wal_driver.proofs.driving.dump.Given as goal

-- the log can be read, and no count has fallen
abbrev pub invariant-loop-page : goal.invariant-loop-page
invariant-loop-page g l = record {
  ready : IsReady l.wal;
  grow : FaultCountsGrow g.H.Disk l.fn.host l.host;
}
