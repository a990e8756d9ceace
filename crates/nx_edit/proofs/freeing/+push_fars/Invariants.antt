use Rattle.std.proofs.Common.{◌≡◌, ◌++◌, [], drop}
use Rattle.std.specs.Option.{option_to_list}
use Rattle.nx_piece.specs.Contents.{fars_in}
use Rattle.nx_piece.specs.Gapped.{item_count}
use Rattle.nx_piece.specs.Items.{gapped_of}
use Rattle.nx_edit.proofs.freeing.+push_fars.Given as goal

abbrev pub decreases-push_fars : goal.decreases-push_fars
decreases-push_fars l = item_count l.tree.now.below

abbrev pub invariant-loop-item : goal.invariant-loop-item
invariant-loop-item l = l.gone.items ++ fars_in (gapped_of (drop l.item-index l.item-items)) ≡ l.fn.gone.items ++ (option_to_list l.tree.node.far ++ (fars_in l.tree.below ++ []))
