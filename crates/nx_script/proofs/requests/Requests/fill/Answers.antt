use Rattle.std.proofs.Common.{refl}
use Rattle.nx_script.proofs.RequestLemmas.{fills_none}
use Rattle.nx_script.proofs.requests.Requests.fill.Goals as goal

pub returns-clause-err : goal.returns-clause-err
returns-clause-err g c =
    fills_none c.args.self.now _ c.fill.result (g.H.Disk.beside c.args.host.now).input (g.H.Disk.beside c.fill.new.host).input c.requires.unended refl c.fill.ensures.err
