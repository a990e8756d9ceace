use Rattle.std.proofs.Common.{ℕ, ◌≤◌, take}
use Rattle.nx_choices.specs.Lightest.{AreLightest}
use Rattle.nx_choices.specs.Walk.{IsCutAt}
use Rattle.nx_choices.proofs.walk.Walk.find.Given as goal

abbrev pub invariant-loop-at : goal.invariant-loop-at
invariant-loop-at l = record {
  lightest : AreLightest l.k (take l.at l.rest) l.extras l.lightest.weights.items l.lightest.fewest;
  none : (number extra : ℕ) → number ≤ l.at → ¬ IsCutAt l.k l.rest l.self.cost l.self.left number extra;
}
