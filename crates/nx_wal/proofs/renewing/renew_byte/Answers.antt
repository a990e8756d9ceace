use Rattle.nx_host.specs.declared.disk.Area.TheVariants.{Log}
use Rattle.nx_host.proofs.DiskLemmas.{renews_last}
use Rattle.nx_replay.proofs.SettledLemmas.{on_ok}
use Rattle.nx_wal.proofs.renewing.renew_byte.Goals as goal

pub returns-clause-renewed : goal.returns-clause-renewed
returns-clause-renewed g c = on_ok c.renew.result c.renew.ensures.ok (λ renews. renews_last Log c.args.at _ _ renews)
