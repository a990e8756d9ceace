use Rattle.nx_piece.specs.Gapped.{item_count}
use Rattle.nx_edit.proofs.making.+write_long.Given as goal

abbrev pub decreases-write_long : goal.decreases-write_long
decreases-write_long g l = item_count l.tree.now.below
