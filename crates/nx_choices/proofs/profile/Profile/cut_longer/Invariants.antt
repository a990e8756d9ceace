use Rattle.std.proofs.Common.{◌≡◌, ◌+◌, length, take}
use Rattle.nx_choices.specs.Profile.{IsDraftOf}
use Rattle.nx_choices.specs.Lightest.{AreLightest}
use Rattle.nx_choices.proofs.profile.Profile.cut_longer.Given as goal

abbrev pub invariant-loop-len : goal.invariant-loop-len
invariant-loop-len l = record {
  base : l.self.base ≡ l.initial.self.base;
  len : length l.self.lefts.items ≡ length l.initial.self.lefts.items;
  lightest : AreLightest l.cuts.k (take l.len l.children) l.extras l.lightest.weights.items l.lightest.fewest;
  draft : IsDraftOf l.cuts.k l.cuts.room l.children (l.len + 1) l.self.base l.self.lefts.items;
}
