use Rattle.std.proofs.Common.{◌≡◌, ◌+◌, drop}
use Rattle.nx_piece.specs.Gapped.{item_count}
use Rattle.nx_piece.specs.Items.{gapped_of}
use Rattle.nx_divide.specs.Marked.{many}
use Rattle.nx_divide.proofs.checking.+count_tree.Given as goal

abbrev pub decreases-count_tree : goal.decreases-count_tree
decreases-count_tree l = item_count l.tree.now.below

abbrev pub invariant-loop-item : goal.invariant-loop-item
invariant-loop-item l = l.count + many (gapped_of (drop l.item-index l.item-items)) ≡ 1 + many l.tree.below
