use Rattle.std.proofs.Common.{[], ◌∷◌, ◌++◌, drop}
use Rattle.nx_tree.specs.Forest.{forest_of}
use Rattle.nx_partition.proofs.GrowLemmas.{IsGrown}
use Rattle.nx_par.proofs.wide.bound_document.Given as goal

abbrev pub invariant-loop-child : goal.invariant-loop-child
invariant-loop-child g l =
    IsGrown l.k l.tree.below (forest_of (drop l.child-index l.child-items)) (l.fn.list.items ++ record { least = 0; lean = 0; nearly = 0 } ∷ []) l.list.items
