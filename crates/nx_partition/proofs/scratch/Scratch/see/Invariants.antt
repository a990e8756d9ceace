use Rattle.std.proofs.Common.{drop}
use Rattle.nx_tree.specs.Forest.{forest_of}
use Rattle.nx_partition.proofs.SeenLemmas.{IsSeen}
use Rattle.nx_partition.proofs.scratch.Scratch.see.Given as goal

abbrev pub invariant-loop-child : goal.invariant-loop-child
invariant-loop-child l = IsSeen l.tree.below (forest_of (drop l.child-index l.child-items)) l.below l.next l.self.children.items
