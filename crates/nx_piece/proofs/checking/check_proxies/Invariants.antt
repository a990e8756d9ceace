use Rattle.std.proofs.Common.{◌≡◌, ◌+◌, ◌*◌, ◌≤◌, ℕ, List, length}
use Rattle.nx_piece.specs.declared.piece.Proxy.{Proxy}
use Rattle.nx_piece.proofs.BodyLemmas.{ProxiesSeen}
use Rattle.nx_piece.proofs.checking.check_proxies.Given as goal

abbrev pub decreases-loop-proxy : goal.decreases-loop-proxy
decreases-loop-proxy l = length l.rest

abbrev pub invariant-loop-proxy : goal.invariant-loop-proxy
invariant-loop-proxy l = (seen : List Proxy) × ProxiesSeen l.fn.bytes seen l.rest l.fit
