use Rattle.std.proofs.Common.{◌≡◌, ℕ, ◌+◌, ◌-◌, ◌<◌, ◌≤◌, ◌⊎◌, min, length, slice_index}
use Rattle.nx_choices.proofs.lightest.Lightest.update.Given as goal

abbrev pub invariant-loop-most : goal.invariant-loop-most
invariant-loop-most l = record {
  fewest : l.self.fewest ≡ l.initial.self.fewest;
  len : length l.self.weights.items ≡ length l.initial.self.weights.items;
  lesser : (at : ℕ) → at < l.most → slice_index l.self.weights.items at ≡ slice_index l.initial.self.weights.items at;
  first : slice_index l.self.weights.items 0 ≡ slice_index l.initial.self.weights.items 0;
  greater : (at : ℕ) → 1 ≤ at → l.self.fewest ≤ at → l.most ≤ at → at < l.number → slice_index l.self.weights.items at ≡ min (slice_index l.initial.self.weights.items at + l.lean) (slice_index l.initial.self.weights.items (at - 1) + l.nearly);
  ends : (l.number ≤ l.most) ⊎ (l.most-start ≤ l.most);
  behind : (at : ℕ) → l.number ≤ at → slice_index l.self.weights.items at ≡ slice_index l.initial.self.weights.items at;
}
