use Rattle.std.proofs.Common.{◌≡◌}
use Rattle.nx_pyx.specs.Fault.{is_among}
use Rattle.nx_piece.specs.Gapped.{item_count}
use Rattle.nx_piece.specs.Viewing.{seen_items}
use Rattle.nx_check.specs.Heads.{item_heads, names_among}
use Rattle.nx_check.proofs.judging.has_attribute_named.Given as goal

abbrev pub invariant-loop-item : goal.invariant-loop-item
invariant-loop-item l = is_among l.name (names_among (item_heads (seen_items l.left))) ≡ is_among l.name (names_among (item_heads (seen_items l.items)))

abbrev pub decreases-loop-item : goal.decreases-loop-item
decreases-loop-item l = item_count (seen_items l.left)
