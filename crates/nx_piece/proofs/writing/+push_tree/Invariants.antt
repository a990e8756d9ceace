use Rattle.std.proofs.Common.{◌++◌, drop}
use Rattle.nx_piece.specs.PieceNode.{HasFarPage}
use Rattle.nx_piece.specs.Gapped.{item_count}
use Rattle.nx_piece.specs.Items.{gapped_of}
use Rattle.nx_piece.specs.Encoding.{tree_bytes}
use Rattle.nx_piece.proofs.WalkLemmas.{IsWritten}
use Rattle.nx_piece.proofs.writing.+push_tree.Given as goal

abbrev pub decreases-push_tree : goal.decreases-push_tree
decreases-push_tree l = item_count l.tree.now.below

abbrev pub invariant-loop-item : goal.invariant-loop-item
invariant-loop-item l = (IsWritten l.out (gapped_of (drop l.item-index l.items)) (l.fn.out ++ tree_bytes l.tree) l.tree.below) × HasFarPage l.tree.node.far
