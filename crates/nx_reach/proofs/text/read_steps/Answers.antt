use Rattle.std.proofs.Common.{[], ◌∷◌, ◌++◌, List, sym, ap, ◌∙◌, subst}
use Rattle.nx_reach.specs.declared.step.Step.{Step}
use Rattle.nx_reach.specs.Text.{HasReadSteps}
use Rattle.nx_reach.proofs.ReadLemmas.{none_unsplit, none_unlabelled, none_empty, read_more, some_left, none_left}
use Rattle.nx_reach.proofs.text.read_steps.Goals as goal

pub returns-in_default : goal.returns-in_default
returns-in_default c =
    none_unsplit c.args.text.now c.loop-rest.steps c.loop-rest.rest.now (some_left _ c.is_empty.result c.is_empty.ensures c.loop-rest-test.true) c.loop-rest.invariant c.in_default.ensures

pub returns-then-not-is_child_label : goal.returns-then-not-is_child_label
returns-then-not-is_child_label c =
    none_unlabelled c.args.text.now c.loop-rest.steps c.loop-rest.rest.now c.in-Some.view.is_below c.in-Some.view.name.now c.in-Some.view.more.now
    (some_left _ c.is_empty.result c.is_empty.ensures c.loop-rest-test.true) c.loop-rest.invariant c.in-Some.ensures (sym c.is_child_label.ensures ∙ c.if-not-is_child_label.true)

pub loop-rest-preserved : goal.loop-rest-preserved
loop-rest-preserved c =
    subst (λ (steps : List Step). HasReadSteps c.args.text.now steps c.in-Some.view.more.now)
    (sym (c.in_ok-push.ensures.ok ∙ ap (λ (step : Step). c.loop-rest.steps ++ step ∷ []) c.in_ok-make_step.ensures))
    (read_more c.args.text.now c.loop-rest.steps c.loop-rest.rest.now c.in-Some.view.is_below c.in-Some.view.name.now c.in-Some.view.more.now
    (some_left _ c.is_empty.result c.is_empty.ensures c.loop-rest-test.true) c.loop-rest.invariant c.in-Some.ensures (sym c.is_child_label.ensures ∙ c.if-not-is_child_label.false)
    (λ full. c.if-len-eq-MOST_STEPS.false (c.len.ensures ∙ full)))

pub returns-then-is_empty : goal.returns-then-is_empty
returns-then-is_empty c = none_empty c.args.text.now c.loop-rest.steps c.loop-rest.rest.now (none_left _ c.is_empty.result c.is_empty.ensures c.loop-rest-test.false) c.loop-rest.invariant
    (none_left _ c.is_empty-2.result c.is_empty-2.ensures c.if-is_empty.true)
