use Rattle.std.proofs.Common.{◌≡◌, ◌+◌, ◌≤◌, ℕ, List, length}
use Rattle.nx_piece.specs.declared.piece.Proxy.{Proxy}
use Rattle.nx_piece.specs.Gapped.{Gapped, gapped_width, proxies_in}
use Rattle.nx_seek.specs.Items.{ItemsStandIn}
use Rattle.nx_seek.specs.Children.{AreProxies}
use Rattle.nx_seek.proofs.ChildLemmas.{IsOnChildren}
use Rattle.nx_seek.proofs.children.child_at.Given as goal

abbrev pub invariant-loop : goal.invariant-loop
invariant-loop l = (f : Gapped) (tail : List ℕ) (all : List Proxy) → ItemsStandIn l.fn.bytes f tail → gapped_width f ≡ l.fn.items → AreProxies l.fn.proxies all → l.fn.first + proxies_in f ≤ length all
    → IsOnChildren all l.fn.first l.fn.position f tail l.before l.left l.rest l.counter
