use Rattle.std.proofs.Common.{◌-◌, ◌≤◌, length}
use Rattle.nx_choices.specs.Walk.{IsPartly}
use Rattle.nx_choices.proofs.walk.follow.Given as goal

abbrev pub invariant-loop-walk : goal.invariant-loop-walk
invariant-loop-walk l = record {
  little : l.walk.left ≤ l.initial.walk.left;
  partly : IsPartly l.k l.children l.initial.walk.cost l.initial.walk.left l.initial.stands.items l.walk l.stands.items;
}

abbrev pub decreases-loop-walk : goal.decreases-loop-walk
decreases-loop-walk l = length l.children - l.walk.at
