use Rattle.std.proofs.Common.{◌+◌, arith}
use Rattle.nx_choices.proofs.FoundLemmas.{excess_unbudgeted, excess_unleft, excess_some, excess_none}
use Rattle.nx_choices.proofs.profile.Profile.exceeds.Goals as goal

pub returns-in_default : goal.returns-in_default
returns-in_default c = λ children p a.
    excess_unbudgeted (c.args.parent.own + c.args.parent.room) c.args.parent.own children c.args.parent.counts.number c.args.parent.counts.sum c.args.most c.args.claimed a c.in_default.ensures

pub returns-in_default-least_left : goal.returns-in_default-least_left
returns-in_default-least_left c = λ children p a.
    excess_unleft c.args.parent.own c.args.parent.room children c.args.parent.counts.number c.args.parent.counts.sum c.args.most c.args.claimed c.in-Some.budget a c.in-Some.ensures (c.in_default-least_left.ensures.least (c.args.parent.own + c.args.parent.room) children p)

pub returns-then-found-claimed : goal.returns-then-found-claimed
returns-then-found-claimed c = λ children p a.
    excess_some c.args.parent.own c.args.parent.room children c.args.parent.counts.number c.args.parent.counts.sum c.args.most c.args.claimed c.in-Some.budget c.in-Some-least_left.left (omega arith) a c.in-Some.ensures (c.in-Some-least_left.ensures.least (c.args.parent.own + c.args.parent.room) children p)

pub returns-else-found-claimed : goal.returns-else-found-claimed
returns-else-found-claimed c = λ children p a.
    excess_none c.args.parent.own c.args.parent.room children c.args.parent.counts.number c.args.parent.counts.sum c.args.most c.args.claimed c.in-Some.budget c.in-Some-least_left.left (omega arith) a c.in-Some.ensures (c.in-Some-least_left.ensures.least (c.args.parent.own + c.args.parent.room) children p)
