use Rattle.std.proofs.Common.{◌+◌, refl}
use Rattle.nx_choices.proofs.LeastLemmas.{lightest, budget_some, left_there}
use Rattle.nx_choices.proofs.profile.Profile.lightest.Goals as goal

pub returns-in_default : goal.returns-in_default
returns-in_default c = λ children cheapest p a h enough.
    absurd (budget_some c.args.parent.own c.args.parent.room children c.args.parent.counts.number c.args.parent.counts.sum c.args.most cheapest c.in_default.ensures enough)

pub returns-in_default-least_left : goal.returns-in_default-least_left
returns-in_default-least_left c = λ children cheapest p a h enough.
    absurd (left_there c.args.parent.own c.args.parent.room children c.args.parent.counts.number c.args.parent.counts.sum c.args.most cheapest c.in-Some.budget c.in-Some.ensures h enough (c.in_default-least_left.ensures.least (c.args.parent.own + c.args.parent.room) children p))

pub returns : goal.returns
returns c = λ children cheapest p a h enough.
    lightest c.args.parent.own c.args.parent.room children c.args.parent.counts.number c.args.parent.counts.sum c.args.most c.in-Some.budget c.in-Some-least_left.left (c.args.parent.own + c.in-Some-least_left.left) a c.in-Some.ensures
    (c.in-Some-least_left.ensures.least (c.args.parent.own + c.args.parent.room) children p) refl
