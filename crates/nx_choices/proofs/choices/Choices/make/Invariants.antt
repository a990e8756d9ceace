use Rattle.std.proofs.Common.{◌≡◌, ◌+◌, ◌-◌, length, drop}
use Rattle.nx_choices.specs.declared.reach.Form.TheVariants.{Plain, Light}
use Rattle.nx_choices.specs.Profile.{AreProfiles, IsProfile, IsReach}
use Rattle.nx_choices.proofs.choices.Choices.make.Given as goal

abbrev pub invariant-loop-at : goal.invariant-loop-at
invariant-loop-at l = record {
  plain : IsReach l.k Plain (drop l.at l.children) l.plain.len l.plain.sum;
  light : IsReach l.k Light (drop l.at l.children) l.light.len l.light.sum;
  rows : length l.self.profiles.rows.items ≡ length l.children - l.at + 1;
  profile : IsProfile l.k l.room (drop l.at l.children) l.self.profile.base l.self.profile.lefts.items;
  profiles : AreProfiles l.k l.room (drop l.at l.children) l.self.profiles;
}
