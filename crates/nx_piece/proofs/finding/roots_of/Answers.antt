use Rattle.std.proofs.Common.{arith, ◌≡◌, ◌+◌, ap, ◌∙◌, get_or, drop}
use Rattle.std.specs.List.{sum_by}
use Rattle.std.proofs.lemmas.List.Sums.{sum_by-cons}
use Rattle.nx_piece.specs.declared.piece.Proxy.{Proxy}
use Rattle.nx_piece.proofs.WalkLemmas.{next_at}
use Rattle.nx_piece.proofs.LocateLemmas.{roots_most}
use Rattle.nx_piece.proofs.finding.roots_of.Goals as goal

pub overflow_add-roots : goal.overflow_add-roots
overflow_add-roots c =
    let other : Proxy = record { page = 0; slot = 0; roots = 0 } in
    let proxy : Proxy = get_or c.args.proxies.now c.loop-proxy.proxy-index other in
    let is : c.from-roots.result ≡ proxy.roots = c.from-roots.ensures in
    let next = ap (sum_by (λ (p : Proxy). p.roots)) (next_at c.args.proxies.now c.loop-proxy.proxy-index other c.loop-proxy-test.true)
    ∙ sum_by-cons (λ (p : Proxy). p.roots) proxy (drop (c.loop-proxy.proxy-index + 1) c.args.proxies.now) in
    let most = roots_most c.args.proxies.now c.requires.ranged in
    omega arith
