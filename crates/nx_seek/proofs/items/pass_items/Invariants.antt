use Rattle.std.proofs.Common.{◌≡◌, ℕ, List, length}
use Rattle.nx_piece.specs.Gapped.{Gapped, gapped_width}
use Rattle.nx_seek.specs.Items.{ItemsStandIn}
use Rattle.nx_seek.proofs.ItemLemmas.{IsPassing}
use Rattle.nx_seek.proofs.items.pass_items.Given as goal

abbrev pub invariant-loop-left : goal.invariant-loop-left
invariant-loop-left l = (f : Gapped) (tail : List ℕ) → ItemsStandIn l.fn.bytes f tail → gapped_width f ≡ l.fn.items → IsPassing f tail l.proxies l.left l.rest

abbrev pub decreases-loop-left : goal.decreases-loop-left
decreases-loop-left l = length l.rest
