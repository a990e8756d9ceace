use Rattle.nx_wal.proofs.wal.Wal.open.Goals as goal

pub returns-clause-renewed : goal.returns-clause-renewed
returns-clause-renewed g c was at settled gate = c.in-Ok-renew.ensures.renewed was at (c.in-Ok.ensures.ok was settled).0 gate
