use Rattle.std.proofs.Common.{take}
use Rattle.nx_choices.specs.Lightest.{AreLightest}
use Rattle.nx_choices.proofs.lightest.Lightest.weigh.Given as goal

abbrev pub invariant-loop-child : goal.invariant-loop-child
invariant-loop-child l = AreLightest l.k (take l.child-index l.children) l.extras l.self.weights.items l.self.fewest
