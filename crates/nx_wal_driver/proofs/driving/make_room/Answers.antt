use Rattle.nx_host.proofs.DiskLemmas.{written_alone_weaker}
use Rattle.nx_wal_driver.proofs.driving.make_room.Goals as goal

pub returns-in_err-checkpoint-clause-alone : goal.returns-in_err-checkpoint-clause-alone
returns-in_err-checkpoint-clause-alone g c = written_alone_weaker c.checkpoint.ensures.goes (λ _ _ _. tt)

pub returns-clause-alone : goal.returns-clause-alone
returns-clause-alone g c = written_alone_weaker c.checkpoint.ensures.goes (λ _ _ _. tt)

pub returns-clause-in_step : goal.returns-clause-in_step
returns-clause-in_step g c = λ was now step told. (c.in_ok-checkpoint.ensures.ok was now step told).0
