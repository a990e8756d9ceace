use Rattle.nx_records.proofs.LeaveLemmas.{leaves_same, leaves_step, leaves_stand}
use Rattle.nx_records.proofs.records.Records.open.Goals as goal

pub returns-clause-ok : goal.returns-clause-ok
returns-clause-ok g c was held settled holds =
    leaves_stand {r0 = c.in-Ok.records} {r1 = c.renew.new.self} (leaves_same c.in-Ok-renew.ensures.ok.0) c.renew.ensures.still (c.in-Ok.ensures.ok was held settled holds)

pub returns-clause-step : goal.returns-clause-step
returns-clause-step g c was settled =
    let opened = c.in-Ok.ensures.step was settled in
    (leaves_step {r0 = c.in-Ok.records} {r1 = c.renew.new.self} (leaves_same c.in-Ok-renew.ensures.ok.0) c.renew.ensures.still opened.0, opened.1)

pub returns-clause-renewed : goal.returns-clause-renewed
returns-clause-renewed g c was at settled gate = c.in-Ok-renew.ensures.renewed was at (c.in-Ok.ensures.step was settled).0 gate
