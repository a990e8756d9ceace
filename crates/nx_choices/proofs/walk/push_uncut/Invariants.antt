use Rattle.std.proofs.Common.{◌≡◌, ◌++◌, replicate}
use Rattle.nx_choices.specs.declared.child.Stand.TheVariants.{Uncut}
use Rattle.nx_choices.proofs.walk.push_uncut.Given as goal

abbrev pub invariant-loop : goal.invariant-loop
invariant-loop l = l.stands.items ≡ l.initial.stands.items ++ replicate l.counter Uncut
