use Rattle.std.proofs.Common.{◌+◌, ◌-◌, ◌≤◌, List, length}
use Rattle.nx_piece.specs.declared.piece.Proxy.{Proxy}
use Rattle.nx_seek.specs.Children.{AreProxies}
use Rattle.nx_seek.proofs.ChildLemmas.{WalksProxies}
use Rattle.nx_seek.proofs.children.member_at.Given as goal

abbrev pub invariant-loop-offset : goal.invariant-loop-offset
invariant-loop-offset l = (all : List Proxy) → AreProxies l.fn.proxies all → l.fn.first + l.fn.count ≤ length all
    → WalksProxies all l.fn.first l.fn.count l.fn.position (l.fn.first + l.offset) l.left (l.fn.count - l.offset) l.rest
