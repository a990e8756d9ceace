use Rattle.nx_replay.proofs.SettledLemmas.{on_ok}
use Rattle.nx_wal.proofs.WritingLemmas.{synced}
use Rattle.nx_wal.proofs.writing.write_gate.Goals as goal

pub returns-clause-written : goal.returns-clause-written
returns-clause-written g c = on_ok c.sync_log.result c.sync_log.ensures.durable (λ durable.
    λ was settled fits now told. synced c.write_log.ensures.writes c.in_ok-write_log.ensures.lays c.sync_log.ensures.images durable settled fits told)
