use Rattle.std.proofs.Common.{drop}
use Rattle.nx_piece.specs.Gapped.{item_count}
use Rattle.nx_piece.specs.Items.{gapped_of}
use Rattle.nx_piece.specs.Weight.{HaveShortNodes}
use Rattle.nx_split.specs.Piece.{AreGappedAtMost}
use Rattle.nx_divide.proofs.checking.+is_light.Given as goal

abbrev pub decreases-is_light : goal.decreases-is_light
decreases-is_light l = item_count l.tree.now.below

abbrev pub invariant-loop-item : goal.invariant-loop-item
invariant-loop-item l = record {
  short : HaveShortNodes (gapped_of (drop l.item-index l.item-items));
  light : AreGappedAtMost l.k (gapped_of (drop l.item-index l.item-items)) → AreGappedAtMost l.k l.tree.below;
  all : AreGappedAtMost l.k l.tree.below → AreGappedAtMost l.k (gapped_of (drop l.item-index l.item-items));
}
