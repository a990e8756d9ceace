use Rattle.std.proofs.Common.{◌≡◌, ◌++◌, take}
use Rattle.nx_choices.proofs.profiles.Profiles.push.Given as goal

abbrev pub invariant-loop-left : goal.invariant-loop-left
invariant-loop-left l = record {
  rows : l.self.rows ≡ l.initial.self.rows;
  items : l.self.rows.items ≡ l.initial.self.rows.items;
  lefts : l.self.lefts.items ≡ l.initial.self.lefts.items ++ take l.left-index l.profile.lefts.items;
}
