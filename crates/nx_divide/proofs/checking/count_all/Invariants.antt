use Rattle.std.proofs.Common.{◌≡◌, ◌+◌, drop}
use Rattle.nx_piece.specs.Gapped.{grown_of}
use Rattle.nx_divide.specs.Marked.{many}
use Rattle.nx_divide.proofs.checking.count_all.Given as goal

abbrev pub invariant-loop-tree : goal.invariant-loop-tree
invariant-loop-tree l = l.count + many (grown_of (drop l.tree-index l.trees)) ≡ many (grown_of l.trees)
