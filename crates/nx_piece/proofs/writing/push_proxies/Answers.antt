use Rattle.nx_piece.specs.declared.piece.Proxy.{Proxy}
use Rattle.nx_piece.proofs.WalkLemmas.{proxies_start, proxies_more, proxies_end}
use Rattle.nx_piece.proofs.writing.push_proxies.Goals as goal

pub loop-proxy-init : goal.loop-proxy-init
loop-proxy-init c = proxies_start c.args.out.now c.args.proxies.now

pub loop-proxy-preserved : goal.loop-proxy-preserved
loop-proxy-preserved c =
    let other : Proxy = record { page = 0; slot = 0; roots = 0 } in
    proxies_more other c.loop-proxy.invariant c.loop-proxy-test.true c.in_ok-push_proxy.ensures.bytes c.in_ok-push_proxy.ensures.numbers

pub returns : goal.returns
returns c =
    let e = proxies_end c.loop-proxy.out c.args.out.now c.loop-proxy.proxy-index c.args.proxies.now c.loop-proxy.invariant c.loop-proxy-test.false in
    record { bytes = e.0; numbers = e.1 }
