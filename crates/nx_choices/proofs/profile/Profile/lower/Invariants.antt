use Rattle.std.proofs.Common.{◌≡◌, ℕ, ◌+◌, ◌<◌, ◌≤◌, min, length, slice_index}
use Rattle.nx_choices.specs.Profile.{left_at, lefts_of}
use Rattle.nx_choices.proofs.profile.Profile.lower.Given as goal

abbrev pub invariant-loop-index : goal.invariant-loop-index
invariant-loop-index l = record {
  base : l.self.base ≡ l.initial.self.base;
  len : length l.self.lefts.items ≡ length l.initial.self.lefts.items;
  each : (at : ℕ) → at < l.index → slice_index l.self.lefts.items at ≡ min (slice_index l.initial.self.lefts.items at) (left_at (l.room + 1) (l.beyond.base + l.extra) (lefts_of l.profiles.lefts.items l.beyond) (l.initial.self.base + at));
  others : (at : ℕ) → l.index ≤ at → slice_index l.self.lefts.items at ≡ slice_index l.initial.self.lefts.items at;
}
