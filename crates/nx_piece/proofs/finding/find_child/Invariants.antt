use Rattle.nx_piece.specs.Gapped.{item_count}
use Rattle.nx_piece.specs.Viewing.{seen_items}
use Rattle.nx_piece.proofs.LocateLemmas.{IsReached}
use Rattle.nx_piece.proofs.finding.find_child.Given as goal

abbrev pub decreases-loop-item : goal.decreases-loop-item
decreases-loop-item l = item_count (seen_items l.rest)

abbrev pub invariant-loop-item : goal.invariant-loop-item
invariant-loop-item l = IsReached l.proxies l.first l.position (seen_items l.items) l.before l.left (seen_items l.rest)
