use Rattle.std.proofs.Common.{◌↔◌}
use Rattle.nx_tree.specs.declared.node.Kind.TheVariants.{Element}
use Rattle.nx_piece.specs.Gapped.{item_count}
use Rattle.nx_piece.specs.Viewing.{seen_items}
use Rattle.nx_check.specs.Heads.{item_heads, MayHaveHeads}
use Rattle.nx_check.proofs.RowLemmas.{MayFollow}
use Rattle.nx_check.proofs.judging.attributes_fit.Given as goal

abbrev pub invariant-loop-item : goal.invariant-loop-item
invariant-loop-item l = MayHaveHeads Element (item_heads (seen_items l.items)) ↔ MayFollow l.begun (item_heads (seen_items l.left))

abbrev pub decreases-loop-item : goal.decreases-loop-item
decreases-loop-item l = item_count (seen_items l.left)
