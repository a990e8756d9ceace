use Rattle.std.proofs.Common.{arith, ◌≡◌, ◌+◌, ◌-◌, ℕ, get_or, sym, subst}
use Rattle.nx_piece.specs.declared.piece.Proxy.{Proxy}
use Rattle.nx_piece.proofs.WalkLemmas.{next_at}
use Rattle.nx_piece.proofs.LocateLemmas.{IsPassed, is_member, one_passed}
use Rattle.nx_piece.proofs.finding.member_at.Goals as goal

pub returns-then-left-roots-clause-found : goal.returns-then-left-roots-clause-found
returns-then-left-roots-clause-found c =
    let other : Proxy = record { page = 0; slot = 0; roots = 0 } in
    let proxy : Proxy = get_or c.args.proxies.now c.loop-offset.offset other in
    let is : c.from-roots.result ≡ proxy.roots = c.from-roots.ensures in
    is_member proxy c.loop-offset.invariant (next_at c.args.proxies.now c.loop-offset.offset other c.loop-offset-test.true) (omega arith)

pub loop-offset-preserved : goal.loop-offset-preserved
loop-offset-preserved c =
    let other : Proxy = record { page = 0; slot = 0; roots = 0 } in
    let proxy : Proxy = get_or c.args.proxies.now c.loop-offset.offset other in
    let is : c.from-roots.result ≡ proxy.roots = c.from-roots.ensures in
    subst (λ (n : ℕ). IsPassed c.args.first c.args.position c.args.proxies.now (c.loop-offset.offset + 1) (c.loop-offset.left - n)) (sym is)
    (one_passed proxy c.loop-offset.invariant (next_at c.args.proxies.now c.loop-offset.offset other c.loop-offset-test.true) (omega arith))
