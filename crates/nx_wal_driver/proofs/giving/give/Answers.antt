use Rattle.nx_host.specs.Time.{elapsed_weaker}
use Rattle.nx_wal_driver.proofs.giving.give.Goals as goal

pub returns-in-Ok-clause-images : goal.returns-in-Ok-clause-images
returns-in-Ok-clause-images g c = elapsed_weaker c.emit.ensures.time (λ s h. h.1)

pub returns-in-Err-clause-images : goal.returns-in-Err-clause-images
returns-in-Err-clause-images g c = elapsed_weaker c.emit.ensures.time (λ s h. h.1)
