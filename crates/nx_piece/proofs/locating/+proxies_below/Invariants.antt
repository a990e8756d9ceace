use Rattle.std.proofs.Common.{◌≡◌, ◌+◌, drop}
use Rattle.nx_piece.specs.Gapped.{proxies_in, item_count}
use Rattle.nx_piece.specs.Items.{gapped_of}
use Rattle.nx_piece.proofs.locating.+proxies_below.Given as goal

abbrev pub decreases-proxies_below : goal.decreases-proxies_below
decreases-proxies_below l = item_count l.tree.now.below

abbrev pub invariant-loop-item : goal.invariant-loop-item
invariant-loop-item l = l.proxies + proxies_in (gapped_of (drop l.item-index l.item-items)) ≡ proxies_in l.tree.below
