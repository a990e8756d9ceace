use Rattle.nx_host_tests.proofs.TestHost.{output_grows}
use Rattle.nx_host_tests.proofs.host.DisklessHostHost.emit.Goals as goal

pub returns-in-Ok-clause-time : goal.returns-in-Ok-clause-time
returns-in-Ok-clause-time c =
    let host = c.args.self.now in
    let time =
    output_grows host.past.items host.output.items c.append.new.past.items c.append.new.output.items c.args.bytes.now c.in-Ok.ensures.past c.in-Ok.ensures.ok in
    record { later = time.later; nothing_else = time.nothing_else; keeps = time.keeps }
