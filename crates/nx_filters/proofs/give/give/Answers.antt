use Rattle.std.proofs.Common.{◌<◌, length, arith}
use Rattle.std.proofs.lemmas.Result.{err_from_is_err_and}
use Rattle.std.proofs.lemmas.Bool.Decides.{nat_tests}
use Rattle.nx_filters.proofs.GiveLemmas.{fails_at_once}
use Rattle.nx_filters.proofs.give.give.Goals as goal

pub returns-in_err-emit-clause-given : goal.returns-in_err-emit-clause-given
returns-in_err-emit-clause-given g c =
    let h = g.H.Disk in
    let p = err_from_is_err_and c.from_residual.result c.from_residual.ensures.1 in
    let full = c.if-not-is_empty.true in
    let said = c.is_empty.ensures in
    let some : 0 < length c.args.bytes.now = grind (arith, nat_tests) in
    rw (p.1, p.2)
    (fails_at_once c.args.bytes.now (h.beside c.args.host.now) (h.beside c.emit.new.self) some c.in_err-emit.ensures.cause c.in_err-emit.ensures.prefix)
