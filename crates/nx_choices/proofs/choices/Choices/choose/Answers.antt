use Rattle.std.proofs.Common.{◌-◌, arith}
use Rattle.std.proofs.lemmas.Result.{on_ok_weaker}
use Rattle.nx_choices.proofs.BuildLemmas.{weighed_more}
use Rattle.nx_choices.proofs.FitLemmas.{chooses_uncut}
use Rattle.nx_choices.proofs.WalkLemmas.{followed_chooses}
use Rattle.nx_choices.proofs.choices.Choices.choose.Goals as goal

pub total-requires-clause-weighed : goal.total-requires-clause-weighed
total-requires-clause-weighed c = weighed_more c.args.k 256 c.args.children.now c.requires.bound c.requires.weights

pub returns-in-Some : goal.returns-in-Some
returns-in-Some c =
    let there = c.requires.there in let root = there.admitted.root in let little = there.little in let m = c.min.ensures in
    let t = c.in-Some.ensures in let fits = t.1 in
    on_ok_weaker c.push_uncut.result
    (λ added. chooses_uncut c.args.k c.args.own c.args.most c.args.weight c.in-Some.field-0 c.args.children.now c.args.stands.now.items c.push_uncut.new.stands.items there t.0 (omega arith) (omega arith) added)
    c.push_uncut.ensures

pub returns-then-children-gt-MANY : goal.returns-then-children-gt-MANY
returns-then-children-gt-MANY c =
    let there = c.requires.there in let root = there.admitted.root in let little = there.little in let m = c.min.ensures in
    followed_chooses c.args.k c.args.own c.args.most c.args.weight (c.min.result - c.args.own) c.cheapest-cost.result c.args.children.now c.args.stands.now.items c.follow.new.stands.items there (omega arith) (omega arith)
    (λ w fits small. omega arith) (c.cheapest-cost.ensures.cheapest c.args.k c.args.children.now c.in_ok-make-in-None.ensures.profile) c.in_ok-follow-in-None.ensures

pub returns-else-children-gt-MANY : goal.returns-else-children-gt-MANY
returns-else-children-gt-MANY c =
    let there = c.requires.there in let root = there.admitted.root in let little = there.little in let m = c.min.ensures in
    followed_chooses c.args.k c.args.own c.args.most c.args.weight (c.min.result - c.args.own) c.cheapest-cost.result c.args.children.now c.args.stands.now.items c.follow.new.stands.items there (omega arith) (omega arith)
    (λ w fits small. omega arith) (c.cheapest-cost.ensures.cheapest c.args.k c.args.children.now c.in_ok-make-in-None.ensures.profile) c.in_ok-follow-in-None.ensures
