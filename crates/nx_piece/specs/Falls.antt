-- No item is larger than the list that it stands in.
use Rattle.std.specs.Prelude.{◌+◌, ◌*◌, ◌≤◌, List, [], ◌∷◌}
use Rattle.std.proofs.Common.{arith}
use denote.Param.Weighed.{most}
use Rattle.nx_piece.specs.declared.piece.Item.{Item}
use Rattle.nx_piece.specs.declared.piece.Item.TheVariants.{Tree, Run}
use Rattle.nx_piece.specs.declared.piece.Items.TheDeep.{deep-Item}
use Rattle.nx_piece.specs.Gapped.{item_count}
use Rattle.nx_piece.specs.Items.{gapped_of}

pub items_fall : (items : List Item) → most (λ i. deep-Item i) items ≤ 3 * item_count (gapped_of items) + 2
items_fall [] = omega arith
items_fall (Tree t ∷ items) = omega (arith, items_fall items)
items_fall (Run count ∷ items) = omega (arith, items_fall items)
