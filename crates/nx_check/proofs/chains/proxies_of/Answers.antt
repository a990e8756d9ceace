use Rattle.std.proofs.Common.{◌≡◌, ◌+◌, ◌∷◌, [], length, length-append, ap, ◌∙◌, arith}
use Rattle.nx_piece.specs.Encoding.{proxy_bytes}
use Rattle.nx_check.proofs.ProxyLemmas.{proxies_more, numbers_more, rooted_more, proxy_long, all_seen}
use Rattle.nx_check.proofs.chains.proxies_of.Goals as goal

pub loop-proxy-preserved : goal.loop-proxy-preserved
loop-proxy-preserved c =
    let read = c.in-Some.ensures in
    let pushed = c.in_ok-push.ensures.ok in
    record {
      seen = proxies_more c.args.bytes.now c.loop-proxy.rest.now c.in-Some.behind.now c.loop-proxy.proxies c.push.new.self c.in-Some.proxy c.loop-proxy.invariant.seen read.0 pushed;
      left = (
          let so_far = c.loop-proxy.invariant.left in
          let long : length c.push.new.self ≡ length c.loop-proxy.proxies + length (c.in-Some.proxy ∷ []) = ap length pushed ∙ length-append c.loop-proxy.proxies (c.in-Some.proxy ∷ []) in
          let rest : length c.loop-proxy.rest.now ≡ length (proxy_bytes c.in-Some.proxy) + length c.in-Some.behind.now = ap length read.0 ∙ length-append (proxy_bytes c.in-Some.proxy) c.in-Some.behind.now in
          let eight = proxy_long c.in-Some.proxy in
          omega (arith, so_far, long, rest, eight));
      numbers = numbers_more c.loop-proxy.proxies c.push.new.self c.in-Some.proxy c.loop-proxy.invariant.numbers read.1 read.2 pushed;
      rooted = rooted_more c.loop-proxy.proxies c.push.new.self c.in-Some.proxy c.loop-proxy.invariant.rooted read.3 pushed;
    }

pub returns-clause-are : goal.returns-clause-are
returns-clause-are c = all_seen c.args.bytes.now c.loop-proxy.rest.now c.loop-proxy.proxies c.args.count c.loop-proxy.invariant.seen c.loop-proxy.invariant.left c.in_default.ensures

pub returns-clause-many : goal.returns-clause-many
returns-clause-many c = let so_far = c.loop-proxy.invariant.left in let few = c.in_default.ensures in omega (arith, so_far, few)
