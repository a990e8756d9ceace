use Rattle.std.proofs.Common.{refl}
use Rattle.nx_host.proofs.DiskLemmas.{settled_still}
use Rattle.nx_wal.proofs.WalLemmas.{not_opened, follows_read}
use Rattle.nx_wal.proofs.wal.Wal.open_to_read.Goals as goal

pub returns-in-Err-clause-refused : goal.returns-in-Err-clause-refused
returns-in-Err-clause-refused g c = not_opened g.D.Disk c.in-Err.error c.args.disk.now c.open_log.new.disk c.in-Err.ensures.refused

pub returns-clause-ok : goal.returns-clause-ok
returns-clause-ok g c was settled =
    let read = c.in-Ok.ensures.read was settled.here in (
      record { settled = settled_still c.open_log.ensures.still settled; follows = follows_read _ c.in-Ok.opened.end was.log refl refl read.0 },
      read.1,
    )
