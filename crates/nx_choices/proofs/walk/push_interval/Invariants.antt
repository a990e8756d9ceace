use Rattle.nx_choices.specs.Walk.{AreFormed}
use Rattle.nx_choices.proofs.walk.push_interval.Given as goal

abbrev pub invariant-loop-at : goal.invariant-loop-at
invariant-loop-at l = AreFormed l.k l.members l.initial.extra l.at l.limit l.extra l.initial.stands.items l.stands.items
