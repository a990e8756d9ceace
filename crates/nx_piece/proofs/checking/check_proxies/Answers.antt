use Rattle.std.proofs.Common.{arith, refl, ap, length, ◌≡◌, ◌<◌, ◌*◌, ◌++◌, ◌∷◌, []}
use Rattle.nx_piece.proofs.BodyLemmas.{proxies_length, proxy_seen}
use Rattle.nx_piece.proofs.CheckLemmas.{proxies_told}
use Rattle.nx_piece.proofs.checking.check_proxies.Goals as goal

pub returns-then-bytes-count : goal.returns-then-bytes-count
returns-then-bytes-count c ps n ranged is = let l = ap length is in omega (arith, proxies_length ps)

pub loop-proxy-preserved : goal.loop-proxy-preserved
loop-proxy-preserved c =
    let h = c.loop-proxy.invariant in
    (h.0 ++ c.in-Some.proxy ∷ [], proxy_seen c.has_roots-fit.result h.1 c.in-Some.ensures c.has_roots-fit.ensures refl)

pub returns : goal.returns
returns c = let h = c.loop-proxy.invariant in proxies_told c.loop-proxy.fit c.args.count h.0 h.1 (omega arith) c.in_default.ensures
