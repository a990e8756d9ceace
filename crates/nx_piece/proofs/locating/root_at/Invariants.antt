use Rattle.std.proofs.Common.{drop, List}
use Rattle.nx_piece.specs.declared.piece.Proxy.{Proxy}
use Rattle.nx_piece.specs.Gapped.{grown_of}
use Rattle.nx_piece.proofs.LocateLemmas.{IsReached}
use Rattle.nx_piece.proofs.locating.root_at.Given as goal

abbrev pub invariant-loop-root : goal.invariant-loop-root
invariant-loop-root l = (proxies : List Proxy) → IsReached proxies 0 l.member (grown_of l.roots) l.first l.left (grown_of (drop l.root-index l.roots))
