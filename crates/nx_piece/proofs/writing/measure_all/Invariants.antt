use Rattle.std.proofs.Common.{drop}
use Rattle.nx_piece.specs.Gapped.{grown_of, item_count, slots_in}
use Rattle.nx_piece.proofs.WalkLemmas.{IsMeasured}
use Rattle.nx_piece.proofs.writing.measure_all.Given as goal

abbrev pub invariant-loop-tree : goal.invariant-loop-tree
invariant-loop-tree l =
    IsMeasured l.extent.items l.extent.slots (grown_of (drop l.tree-index l.trees)) (item_count (grown_of l.trees)) (slots_in (grown_of l.trees))
