use Rattle.std.proofs.Common.{◌≡◌, take}
use Rattle.nx_minima.specs.Seen.{seen}
use Rattle.nx_partition.proofs.bounding.bound_of.Given as goal

abbrev pub invariant-loop-bound : goal.invariant-loop-bound
invariant-loop-bound l = l.seen.items ≡ seen (take l.bound-index l.bound-items)
