use Rattle.std.proofs.Common.{drop}
use Rattle.nx_piece.specs.Gapped.{grown_of}
use Rattle.nx_piece.specs.Weight.{HaveShortNodes}
use Rattle.nx_split.specs.Piece.{AreGappedAtMost}
use Rattle.nx_divide.proofs.checking.are_light.Given as goal

abbrev pub invariant-loop-tree : goal.invariant-loop-tree
invariant-loop-tree l = record {
  short : HaveShortNodes (grown_of (drop l.tree-index l.trees));
  light : AreGappedAtMost l.k (grown_of (drop l.tree-index l.trees)) → AreGappedAtMost l.k (grown_of l.trees);
  all : AreGappedAtMost l.k (grown_of l.trees) → AreGappedAtMost l.k (grown_of (drop l.tree-index l.trees));
}
