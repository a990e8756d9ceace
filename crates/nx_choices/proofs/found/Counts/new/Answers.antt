use Rattle.std.proofs.Common.{arith}
use Rattle.nx_choices.specs.declared.child.Child.{Child}
use Rattle.nx_choices.proofs.FoundLemmas.{leasts_more}
use Rattle.nx_choices.proofs.found.Counts.new.Goals as goal

pub loop-child-preserved : goal.loop-child-preserved
loop-child-preserved c =
    let blank : Child = record { least = 0; lean = 0; nearly = 0 } in
    let more = leasts_more c.args.children.now c.loop-child.child-index blank c.loop-child-test.true in
    let from = c.from-sum.ensures in
    let was = c.loop-child.invariant.0 in let most = c.loop-child.invariant.1 in
    (omega arith, omega arith)
