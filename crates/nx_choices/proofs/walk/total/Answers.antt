use Rattle.std.proofs.Common.{◌+◌, arith}
use Rattle.nx_choices.specs.declared.child.Child.{Child}
use Rattle.nx_choices.specs.declared.reach.Form.TheVariants.{Plain}
use Rattle.nx_choices.proofs.ReachLemmas.{weighed_at, weigh_more, weigh_take}
use Rattle.nx_choices.proofs.walk.total.Goals as goal

pub overflow_add-sum : goal.overflow_add-sum
overflow_add-sum c =
    let blank : Child = record { least = 0; lean = 0; nearly = 0 } in
    let w = (weighed_at 256 c.args.children.now c.loop-child.child-index blank c.requires.weighed c.loop-child-test.true).lean_most in
    let m = c.loop-child.invariant.most in
    record { fits = omega arith }

pub loop-child-preserved : goal.loop-child-preserved
loop-child-preserved c =
    let blank : Child = record { least = 0; lean = 0; nearly = 0 } in
    let more = weigh_more Plain c.args.children.now c.loop-child.child-index blank c.loop-child-test.true in
    let was = c.loop-child.invariant.sum in
    record { sum = omega arith; most = omega arith }

pub returns-then-sum-most : goal.returns-then-sum-most
returns-then-sum-most c =
    let blank : Child = record { least = 0; lean = 0; nearly = 0 } in
    let more = weigh_more Plain c.args.children.now c.loop-child.child-index blank c.loop-child-test.true in
    let whole = weigh_take Plain c.args.children.now (c.loop-child.child-index + 1) in
    let was = c.loop-child.invariant.sum in
    omega arith
