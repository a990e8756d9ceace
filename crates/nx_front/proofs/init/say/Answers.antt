use Rattle.std.proofs.Common.{inr, refl}
use Rattle.nx_front.proofs.InitLemmas.{fails_once}
use Rattle.nx_front.proofs.init.say.Goals as goal

pub returns-in-Err-clause-says : goal.returns-in-Err-clause-says
returns-in-Err-clause-says g c =
    inr (refl, fails_once c.args.line.now (g.H.Disk.beside c.args.host.now) (g.H.Disk.beside c.emit.new.self) c.requires c.in-Err.ensures.cause c.in-Err.ensures.prefix)
