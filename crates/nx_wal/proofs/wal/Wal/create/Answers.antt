use Rattle.std.proofs.Common.{refl}
use Rattle.nx_host.proofs.DiskLemmas.{settled_still}
use Rattle.nx_wal.proofs.WalLemmas.{follows_none}
use Rattle.nx_wal.proofs.wal.Wal.create.Goals as goal

pub returns-clause-ok : goal.returns-clause-ok
returns-clause-ok g c was settled =
    let found = c.in-Ok.ensures.some c.in-Some.shut c.in-Some.is was settled.here in (
      record { settled = settled_still c.shut_of_none.ensures.still settled; follows = follows_none _ was.log c.new-2.ensures.empty c.new-3.ensures.items refl found.0 },
      found.1,
    )
