use Rattle.std.proofs.Common.{◌<◌}
use Rattle.std.specs.List.{AllAdjacentBelow}
use Rattle.nx_names.specs.Serials.{noted_key}
use Rattle.nx_names.proofs.gatherer.rise.Given as goal

abbrev pub invariant-loop-index : goal.invariant-loop-index
invariant-loop-index l = AllAdjacentBelow (λ a b. noted_key a < noted_key b) l.noted l.index
