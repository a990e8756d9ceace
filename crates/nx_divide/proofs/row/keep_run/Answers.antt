use Rattle.std.proofs.Common.{◌≡◌, ◌+◌, ◌∷◌, ◌++◌, [], List, length, take, drop, length-drop, sym, ap, ◌∙◌, arith, append_assoc}
use Rattle.std.specs.Vec.Iter.{into_iter_items}
use Rattle.nx_piece.specs.declared.piece.Proxy.{Proxy}
use Rattle.nx_piece.specs.Gapped.{proxies_in}
use Rattle.nx_piece.specs.Items.{gapped_of}
use Rattle.nx_build.specs.Rows.{with_proxy}
use Rattle.nx_divide.proofs.KeepLemmas.{with_proxies-more, proxies-in, take_one, drop_one, sum_one}
use Rattle.nx_divide.proofs.row.keep_run.Goals as goal

pub next_proxy-proxy-requires : goal.next_proxy-proxy-requires
next_proxy-proxy-requires c =
    let e : length (into_iter_items c.loop.olds) ≡ length (drop c.loop.counter (into_iter_items c.args.olds.now)) = ap length c.loop.invariant.2 in
    omega (arith, e, length-drop c.loop.counter (into_iter_items c.args.olds.now), c.requires.there)

pub add_proxy-requires : goal.add_proxy-requires
add_proxy-requires c =
    let e : proxies_in (gapped_of c.loop.items.items) ≡ c.loop.counter + proxies_in (gapped_of c.args.items.now.items) = ap proxies_in c.loop.invariant.0 ∙ proxies-in c.loop.counter (gapped_of c.args.items.now.items) in
    omega (arith, e, c.requires.room)

pub loop-preserved : goal.loop-preserved
loop-preserved c =
    let olds = into_iter_items c.args.olds.now in
    let next : drop c.loop.counter olds ≡ c.next_proxy-proxy.result ∷ into_iter_items c.next_proxy-proxy.new.olds = sym c.loop.invariant.2 ∙ c.next_proxy-proxy.ensures in
    let sum = sum_one c.loop.counter olds (into_iter_items c.next_proxy-proxy.new.olds) c.next_proxy-proxy.result next in (
      c.in_ok-add_proxy.ensures.items ∙ ap with_proxy c.loop.invariant.0 ∙ sym (with_proxies-more c.loop.counter (gapped_of c.args.items.now.items)),
      c.in_ok-add_proxy.ensures.proxies ∙ ap (λ (l : List Proxy). l ++ c.next_proxy-proxy.result ∷ []) c.loop.invariant.1 ∙ append_assoc c.args.proxies.now (take c.loop.counter olds) (c.next_proxy-proxy.result ∷ [])
          ∙ ap (λ (l : List Proxy). c.args.proxies.now ++ l) (sym (take_one c.loop.counter olds (into_iter_items c.next_proxy-proxy.new.olds) c.next_proxy-proxy.result next)),
      drop_one c.loop.counter olds (into_iter_items c.next_proxy-proxy.new.olds) c.next_proxy-proxy.result next,
      omega (arith, sum, c.loop.invariant.3, c.from-roots.ensures),
      omega (arith, c.loop.invariant.4, c.from-roots.ensures),
    )
