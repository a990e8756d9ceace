use Rattle.std.proofs.Common.{drop}
use Rattle.nx_tree.specs.Forest.{forest_of}
use Rattle.nx_partition.proofs.GrowLemmas.{IsGrown}
use Rattle.nx_par.proofs.rows.bound_row.Given as goal

abbrev pub invariant-loop-place : goal.invariant-loop-place
invariant-loop-place g l = IsGrown l.k (forest_of l.trees) (forest_of (drop l.place l.trees)) l.fn.list.items l.list.items
