use Rattle.std.proofs.Common.{◌≡◌, ℕ, ◌-◌, ◌<◌, ◌≤◌, length, slice_index}
use Rattle.nx_choices.proofs.lightest.Lightest.skip.Given as goal

abbrev pub invariant-loop-self : goal.invariant-loop-self
invariant-loop-self l = record {
  same : l.self.weights ≡ l.initial.self.weights;
  on : l.initial.self.fewest ≤ l.self.fewest;
  heavy : (most : ℕ) → l.initial.self.fewest ≤ most → most < l.self.fewest → l.k < slice_index l.self.weights.items most;
  within : l.initial.self.fewest ≤ length l.self.weights.items → l.self.fewest ≤ length l.self.weights.items;
}

abbrev pub decreases-loop-self : goal.decreases-loop-self
decreases-loop-self l = length l.self.weights.items - l.self.fewest
