use Rattle.std.proofs.Common.{arith}
use Rattle.nx_wal.proofs.GatherLemmas.{flushed_reaches, flushed_adds}
use Rattle.nx_wal.proofs.writing.flush.Goals as goal

pub returns-in_err-write_log-clause-reaches : goal.returns-in_err-write_log-clause-reaches
returns-in_err-write_log-clause-reaches g c =
    flushed_reaches c.args.block.now c.deref.result.now c.deref.ensures.value c.write_log.ensures.writes

pub returns-in_err-write_log-clause-faults : goal.returns-in_err-write_log-clause-faults
returns-in_err-write_log-clause-faults g c = ((c.write_log.ensures.writes).goes).faults_later

pub returns-clause-adds : goal.returns-clause-adds
returns-clause-adds g c =
    flushed_adds c.args.block.now _ c.deref.result.now c.deref.ensures.value c.clear.ensures.items (omega arith) c.write_log.ensures.writes c.in_ok-write_log.ensures.lays

pub returns-clause-reaches : goal.returns-clause-reaches
returns-clause-reaches g c =
    flushed_reaches c.args.block.now c.deref.result.now c.deref.ensures.value c.write_log.ensures.writes

pub returns-clause-faults : goal.returns-clause-faults
returns-clause-faults g c = ((c.write_log.ensures.writes).goes).faults_later
