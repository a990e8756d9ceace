use Rattle.std.proofs.Common.{◌≡◌}
use Rattle.nx_piece.specs.Gapped.{item_count}
use Rattle.nx_piece.specs.Viewing.{seen_items}
use Rattle.nx_check.specs.Heads.{item_heads, has_attribute}
use Rattle.nx_check.proofs.judging.some_attribute.Given as goal

abbrev pub invariant-loop-item : goal.invariant-loop-item
invariant-loop-item l = has_attribute (item_heads (seen_items l.left)) ≡ has_attribute (item_heads (seen_items l.items))

abbrev pub decreases-loop-item : goal.decreases-loop-item
decreases-loop-item l = item_count (seen_items l.left)
