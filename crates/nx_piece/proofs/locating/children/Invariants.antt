use Rattle.std.proofs.Common.{drop}
use Rattle.nx_piece.specs.Items.{gapped_of}
use Rattle.nx_piece.proofs.LocateLemmas.{IsCounted}
use Rattle.nx_piece.proofs.locating.children.Given as goal

abbrev pub invariant-loop-item : goal.invariant-loop-item
invariant-loop-item l = IsCounted l.proxies l.first l.at.below l.before l.children (gapped_of (drop l.item-index l.item-items))
