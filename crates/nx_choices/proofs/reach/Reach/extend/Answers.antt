use Rattle.std.proofs.Common.{arith}
use Rattle.nx_choices.specs.declared.child.Child.{Child}
use Rattle.nx_choices.proofs.ReachLemmas.{shortened}
use Rattle.nx_choices.proofs.reach.Reach.extend.Goals as goal

pub overflow_sub-sum : goal.overflow_sub-sum
overflow_sub-sum c =
    let blank : Child = record { least = 0; lean = 0; nearly = 0 } in
    let s = shortened c.args.k c.args.form c.args.children.now c.loop-sum.len c.loop-sum.sum blank c.loop-sum.invariant c.loop-sum-test.true in
    let e = c.weighs-sum.ensures in omega (arith, s.0)

pub loop-sum-preserved : goal.loop-sum-preserved
loop-sum-preserved c =
    let blank : Child = record { least = 0; lean = 0; nearly = 0 } in
    let s = shortened c.args.k c.args.form c.args.children.now c.loop-sum.len c.loop-sum.sum blank c.loop-sum.invariant c.loop-sum-test.true in
    rw c.weighs-sum.ensures s.1
