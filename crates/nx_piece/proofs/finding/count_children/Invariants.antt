use Rattle.nx_piece.specs.Gapped.{item_count}
use Rattle.nx_piece.specs.Viewing.{seen_items}
use Rattle.nx_piece.proofs.LocateLemmas.{IsCounted}
use Rattle.nx_piece.proofs.finding.count_children.Given as goal

abbrev pub decreases-loop-item : goal.decreases-loop-item
decreases-loop-item l = item_count (seen_items l.rest)

abbrev pub invariant-loop-item : goal.invariant-loop-item
invariant-loop-item l = IsCounted l.proxies l.first (seen_items l.at.children) l.before l.children (seen_items l.rest)
