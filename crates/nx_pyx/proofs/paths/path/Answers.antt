use Rattle.std.proofs.Common.{◌≡◌, ◌∷◌, ◌∙◌, ap, sym, length, drop, rules}
use borrow.Author.Tests.{tests}
use Rattle.std.proofs.lemmas.List.{length_push}
use Rattle.std.proofs.lemmas.Iterator.Splits.{YieldsList-from_slice_split}
use Rattle.std.proofs.lemmas.Iterator.Consumers.{YieldsList-turn, YieldsList-end}
use Rattle.nx_pyx.specs.Field.{is_slash}
use Rattle.nx_pyx.proofs.FieldLemmas.{walked_more, walked_all, walked_wrong}
use Rattle.nx_pyx.proofs.paths.path.Goals as goal

pub returns-in_default-position : goal.returns-in_default-position
returns-in_default-position c =
    let text = c.args.text.now in
    let rest = c.in-Some-eq47-default.steps.now in
    let e : text ≡ 47 ∷ rest = c.in-Some-eq47-default.ensures.cases.0 ∙ ap (λ b. b ∷ rest) c.in-Some-eq47-default.field-0-0-test in
    let t = YieldsList-turn (YieldsList-from_slice_split _ is_slash (drop 1 text)
    (ap (λ s. s.rest.now) c.into_iter-step-iterator.ensures.into_iter_gives ∙ c.split-step-items.ensures.rest ∙ sym (ap (drop 1) e)) (cc) (cc)
    (λ x b q k. search (rules, tests)))
    c.loop-step.yielded _ c.loop-step.yielded_by _ _ c.in-Some.step c.in-Some.is c.next.ensures.steps in
    walked_wrong text rest c.in-Some.step.now c.in-Some.step.now (length c.loop-step.yielded) e (sym c.if-is_empty.ensures) t.0 t.1 c.in_default-position.ensures

pub loop-step-preserved : goal.loop-step-preserved
loop-step-preserved c =
    let text = c.args.text.now in
    let rest = c.in-Some-eq47-default.steps.now in
    let e : text ≡ 47 ∷ rest = c.in-Some-eq47-default.ensures.cases.0 ∙ ap (λ b. b ∷ rest) c.in-Some-eq47-default.field-0-0-test in
    let t = YieldsList-turn (YieldsList-from_slice_split _ is_slash (drop 1 text)
    (ap (λ s. s.rest.now) c.into_iter-step-iterator.ensures.into_iter_gives ∙ c.split-step-items.ensures.rest ∙ sym (ap (drop 1) e)) (cc) (cc)
    (λ x b q k. search (rules, tests)))
    c.loop-step.yielded _ c.loop-step.yielded_by _ _ c.in-Some.step c.in-Some.is c.next.ensures.steps in
    (search rules, tt, rw length_push (walked_more _ _ _ _ _ c.in-Some.step.now c.in-Some.step.now c.loop-step.invariant.2 t.0 t.1 c.in-Some-position.ensures.0 c.in-Some-position.ensures.1 c.in_ok-push.ensures.ok))

pub returns : goal.returns
returns c =
    let text = c.args.text.now in
    let rest = c.in-Some-eq47-default.steps.now in
    let e : text ≡ 47 ∷ rest = c.in-Some-eq47-default.ensures.cases.0 ∙ ap (λ b. b ∷ rest) c.in-Some-eq47-default.field-0-0-test in
    let t = YieldsList-end (YieldsList-from_slice_split _ is_slash (drop 1 text)
    (ap (λ s. s.rest.now) c.into_iter-step-iterator.ensures.into_iter_gives ∙ c.split-step-items.ensures.rest ∙ sym (ap (drop 1) e)) (cc) (cc)
    (λ x b q k. search (rules, tests)))
    c.loop-step.yielded _ c.loop-step.yielded_by _ _ c.in-None.is c.next.ensures.steps in
    walked_all text rest c.loop-step.path (length c.loop-step.yielded) e (sym c.if-is_empty.ensures) t.1 c.loop-step.invariant.2
