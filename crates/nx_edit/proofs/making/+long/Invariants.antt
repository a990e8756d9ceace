use Rattle.std.proofs.Common.{◌+◌, ◌*◌}
use Rattle.nx_piece.specs.Gapped.{item_count}
use Rattle.nx_piece.specs.Items.{gapped_of}
use Rattle.nx_edit.proofs.LongLemmas.{PassedLong}
use Rattle.nx_edit.proofs.making.+long.Given as goal

abbrev pub decreases-has_long : goal.decreases-has_long
decreases-has_long l = 2 * item_count l.tree.now.below + 1

abbrev pub decreases-long_item : goal.decreases-long_item
decreases-long_item l = 2 * item_count (gapped_of l.items.now)

abbrev pub invariant-long_item-loop-index : goal.invariant-long_item-loop-index
invariant-long_item-loop-index l = PassedLong l.items l.index
