use Rattle.nx_names.specs.declared.hints.Hints.{Hints}
use Rattle.nx_names.specs.declared.hints.Hint.{Hint}
use Rattle.nx_names.proofs.NumberLemmas.{right_more}
use Rattle.nx_names.proofs.hints.Hints.double.Goals as goal

pub loop-preserved : goal.loop-preserved
loop-preserved c = λ numbers right.
    let old : Hints = c.loop.self in
    let new : Hints = record { alloc = old.alloc; hints = c.push.new.self } in
    let blank : Hint = record { label = c.new.result; number = 0 } in
    right_more numbers old new blank c.in_ok-push.ensures.items c.new.ensures.items (c.loop.invariant numbers right)
