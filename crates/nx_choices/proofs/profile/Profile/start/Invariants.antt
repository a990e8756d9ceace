use Rattle.std.proofs.Common.{◌≡◌, ℕ, ◌+◌, ◌-◌, ◌<◌, ◌≤◌, min, max, length, slice_index}
use Rattle.nx_choices.specs.Profile.{left_at, lefts_of}
use Rattle.nx_choices.proofs.profile.Profile.start.Given as goal

abbrev pub invariant-loop-cost : goal.invariant-loop-cost
invariant-loop-cost l = record {
  base : l.self.base ≡ l.after.base;
  most : l.cost ≤ max l.after.base l.cost-end;
  len : length l.self.lefts.items ≡ l.cost - l.after.base;
  each : (index : ℕ) → index < length l.self.lefts.items → slice_index l.self.lefts.items index ≡ min (slice_index (lefts_of l.profiles.lefts.items l.after) index + l.lean) (left_at (l.room + 1) (l.beyond.base + 1) (lefts_of l.profiles.lefts.items l.beyond) (l.after.base + index));
}
