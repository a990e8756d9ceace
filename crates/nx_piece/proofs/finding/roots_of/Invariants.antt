use Rattle.std.proofs.Common.{◌≡◌, ◌+◌, drop}
use Rattle.std.specs.List.{sum_by}
use Rattle.nx_piece.proofs.finding.roots_of.Given as goal

abbrev pub invariant-loop-proxy : goal.invariant-loop-proxy
invariant-loop-proxy l = l.roots + sum_by (λ p. p.roots) (drop l.proxy-index l.proxies) ≡ sum_by (λ p. p.roots) l.proxies
