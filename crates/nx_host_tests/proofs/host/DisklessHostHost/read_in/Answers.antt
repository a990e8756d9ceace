use Rattle.std.proofs.Common.{◌-◌, ◌≤◌, Some, drop, length, ap, arith}
use Rattle.nx_host_tests.proofs.TestHost.{piece_taken}
use Rattle.nx_host_tests.proofs.host.DisklessHostHost.read_in.Goals as goal

pub returns-clause-taken : goal.returns-clause-taken
returns-clause-taken c =
    let host = c.args.self.now in
    let n = c.min-n.result in
    let fits : n ≤ length host.input.items - host.given = omega arith in
    ap Some (piece_taken host.input.items c.deref.result.now c.copy_from_slice.new.self (drop n c.args.into.now) host.given n c.deref.ensures.value c.copy_from_slice.ensures.after fits)
