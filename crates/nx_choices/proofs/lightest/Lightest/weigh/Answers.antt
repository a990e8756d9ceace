use Rattle.nx_choices.specs.declared.child.Child.{Child}
use Rattle.nx_choices.proofs.ReachLemmas.{weighed_at}
use Rattle.nx_choices.proofs.lightest.Lightest.weigh.Goals as goal

pub add-requires-clause-lean : goal.add-requires-clause-lean
add-requires-clause-lean c =
    let blank : Child = record { least = 0; lean = 0; nearly = 0 } in
    (weighed_at 256 c.args.children.now c.loop-child.child-index blank c.requires.weighed c.loop-child-test.true).lean_most

pub add-requires-clause-nearly : goal.add-requires-clause-nearly
add-requires-clause-nearly c =
    let blank : Child = record { least = 0; lean = 0; nearly = 0 } in
    (weighed_at 256 c.args.children.now c.loop-child.child-index blank c.requires.weighed c.loop-child-test.true).nearly_most
