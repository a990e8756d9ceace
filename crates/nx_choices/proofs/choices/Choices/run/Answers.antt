use Rattle.std.proofs.lemmas.Result.{on_ok_weaker}
use Rattle.nx_choices.proofs.BuildLemmas.{weighed_more}
use Rattle.nx_choices.proofs.choices.Choices.run.Goals as goal

pub total-requires-clause-weighed : goal.total-requires-clause-weighed
total-requires-clause-weighed c = weighed_more c.args.k 256 c.args.children.now c.requires.bound c.requires.weights

pub returns-in-Some : goal.returns-in-Some
returns-in-Some c =
    on_ok_weaker c.fill.result (λ h. h c.args.k c.args.room c.args.children.now c.requires.weights c.in-Some.ensures.0 c.in-Some.ensures.1 c.requires.room) c.fill.ensures
