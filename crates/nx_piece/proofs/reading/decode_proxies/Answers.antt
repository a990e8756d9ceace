use Rattle.std.proofs.Common.{arith, ap, length}
use Rattle.nx_piece.proofs.BodyLemmas.{proxies_length, proxy_seen}
use Rattle.nx_piece.proofs.reading.decode_proxies.Goals as goal

pub returns-then-bytes-room : goal.returns-then-bytes-room
returns-then-bytes-room c ps n ranged is =
    let l = ap length is in omega (arith, proxies_length ps)

pub loop-proxy-preserved : goal.loop-proxy-preserved
loop-proxy-preserved c =
    let step = c.in-Some.ensures in
    let taken = ap length step.0 in
    record {
      seen = proxy_seen c.has_roots-fit.result c.loop-proxy.invariant.seen step c.has_roots-fit.ensures c.push_reserved.ensures.items;
      room = grind arith;
      left = let before = c.loop-proxy.invariant.left in let more = c.push_reserved.ensures.len in omega arith;
    }
