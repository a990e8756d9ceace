use Rattle.std.proofs.Common.{arith}
use Rattle.nx_choices.proofs.WalkLemmas.{uncut_some, uncut_none, uncut_heavy}
use Rattle.nx_choices.proofs.walk.Walk.without.Goals as goal

pub returns-in_default : goal.returns-in_default
returns-in_default c = λ k room others small r. let h = c.in_default.ensures in uncut_heavy k others c.args.lean c.args.self.cost c.args.self.left (omega arith)

pub returns-then-left_at-left : goal.returns-then-left_at-left
returns-then-left_at-left c = λ k room others small r.
    let s = c.in-Some.ensures in let e = c.left_at.ensures in let t = c.if-left_at-left.true in
    uncut_some k room others c.args.profiles.now.lefts.items c.args.after c.args.lean c.args.self.cost c.args.self.left c.in-Some.left (omega arith) small r (omega arith)

pub returns-else-left_at-left : goal.returns-else-left_at-left
returns-else-left_at-left c = λ k room others small r.
    let s = c.in-Some.ensures in let e = c.left_at.ensures in let t = c.if-left_at-left.false in
    uncut_none k room others c.args.profiles.now.lefts.items c.args.after c.args.lean c.args.self.cost c.args.self.left c.in-Some.left (omega arith) small r (omega arith)
