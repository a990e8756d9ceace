use Rattle.std.proofs.Common.{◌≡◌, [], ◌∷◌, ◌++◌, Some, refl, sym, ap, ◌∙◌, rules}
use Rattle.std.proofs.lemmas.Bool.{eq-eqb, ne_eqb}
use Rattle.nx_bounds.specs.declared.text.PlanLine.TheVariants.{Part, Claim}
use Rattle.nx_bounds.proofs.PlanLines.{goes_on-said, say_part, say_bound}
use Rattle.nx_bounds.proofs.text.read.take_line.Goals as goal

pub returns-then-not-is_empty-clause-goes_on : goal.returns-then-not-is_empty-clause-goes_on
returns-then-not-is_empty-clause-goes_on c = λ before say.
    goes_on-said before c.args.line.now c.args.plan.now (Part c.in-Some-Part.interval c.in-Some-Part.weight) say
    (sym c.in_ok-interval.ensures ∙ c.in-Some-Part.is ∙ ap Some c.in-Some-Part.field-0-is)
    ∙ sym c.is_empty.ensures
    ∙ c.if-not-is_empty.true

pub returns-then-node-len-clause-goes_on : goal.returns-then-node-len-clause-goes_on
returns-then-node-len-clause-goes_on c = λ before say.
    goes_on-said before c.args.line.now c.args.plan.now (Claim c.in-Some-Claim.node c.in-Some-Claim.bound) say
    (sym c.in_ok-interval.ensures ∙ c.in-Some-Claim.is ∙ ap Some c.in-Some-Claim.field-0-is)
    ∙ ne_eqb _ _ (λ e. c.if-node-len.true (e ∙ sym c.len.ensures))

pub returns-in_ok-push-in-Some-Part-2-clause-goes_on : goal.returns-in_ok-push-in-Some-Part-2-clause-goes_on
returns-in_ok-push-in-Some-Part-2-clause-goes_on c = λ before say.
    goes_on-said before c.args.line.now c.args.plan.now (Part c.in-Some-Part.interval c.in-Some-Part.weight) say
    (sym c.in_ok-interval.ensures ∙ c.in-Some-Part.is ∙ ap Some c.in-Some-Part.field-0-is)
    ∙ sym c.is_empty.ensures
    ∙ c.if-not-is_empty.false

pub returns-in_ok-push-in-Some-Part-2-clause-taken : goal.returns-in_ok-push-in-Some-Part-2-clause-taken
returns-in_ok-push-in-Some-Part-2-clause-taken c = λ _ before say.
    let weights : c.push-in-Some-Part.new.self ≡ c.args.plan.now.weights ++ c.in-Some-Part.weight ∷ [] = search rules in
    say_part before c.args.line.now c.args.plan.now _ c.in-Some-Part.interval c.in-Some-Part.weight say
    (sym c.in_ok-interval.ensures ∙ c.in-Some-Part.is ∙ ap Some c.in-Some-Part.field-0-is)
    (sym c.is_empty.ensures ∙ c.if-not-is_empty.false)
    c.in_ok-push-in-Some-Part.ensures.ok weights refl

pub returns-in_ok-push-in-Some-Claim-clause-goes_on : goal.returns-in_ok-push-in-Some-Claim-clause-goes_on
returns-in_ok-push-in-Some-Claim-clause-goes_on c = λ before say.
    goes_on-said before c.args.line.now c.args.plan.now (Claim c.in-Some-Claim.node c.in-Some-Claim.bound) say
    (sym c.in_ok-interval.ensures ∙ c.in-Some-Claim.is ∙ ap Some c.in-Some-Claim.field-0-is)
    ∙ eq-eqb _ _ (c.if-node-len.false ∙ c.len.ensures)

pub returns-in_ok-push-in-Some-Claim-clause-taken : goal.returns-in_ok-push-in-Some-Claim-clause-taken
returns-in_ok-push-in-Some-Claim-clause-taken c = λ _ before say.
    say_bound before c.args.line.now c.args.plan.now _ c.in-Some-Claim.node c.in-Some-Claim.bound say
    (sym c.in_ok-interval.ensures ∙ c.in-Some-Claim.is ∙ ap Some c.in-Some-Claim.field-0-is)
    (c.if-node-len.false ∙ c.len.ensures) refl refl c.in_ok-push-in-Some-Claim.ensures.ok
