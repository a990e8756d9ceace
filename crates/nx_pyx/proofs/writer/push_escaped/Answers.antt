use Rattle.std.proofs.Common.{◌++◌, ◌∙◌, ap}
use Rattle.nx_pyx.specs.Text.{escape, escaped}
use Rattle.nx_pyx.proofs.EscapeLemmas.{escaped-stretch, written-last, written-more, written-stretch}
use Rattle.nx_pyx.proofs.PrefixLemmas.{prefix-all, prefix-more, prefix-take}
use Rattle.nx_pyx.proofs.writer.push_escaped.Goals as goal

pub returns-in_default-clause-ok : goal.returns-in_default-clause-ok
returns-in_default-clause-ok c =
    let bs = c.loop-first.rest.now in
    c.in_ok-extend_from_slice.ensures.ok
    ∙ written-last _ _ _ _ bs c.loop-first.invariant.text (escaped-stretch bs _ _ _ c.unmarked_len.ensures.none c.split_at.ensures.front c.split_at.ensures.back) c.in_default.ensures.cases

pub returns-in_err-extend_from_slice-clause-prefix : goal.returns-in_err-extend_from_slice-clause-prefix
returns-in_err-extend_from_slice-clause-prefix c =
    let before = prefix-take _ _ _ _ c.loop-first.invariant.prefix c.loop-first.invariant.text in
    (before.0, c.in_err-extend_from_slice.ensures.err ∙ before.1)

pub returns-in_default-clause-prefix : goal.returns-in_default-clause-prefix
returns-in_default-clause-prefix c =
    let bs = c.loop-first.rest.now in
    prefix-all _ _ _ (
    c.in_ok-extend_from_slice.ensures.ok
    ∙ written-last _ _ _ _ bs c.loop-first.invariant.text (escaped-stretch bs _ _ _ c.unmarked_len.ensures.none c.split_at.ensures.front c.split_at.ensures.back) c.in_default.ensures.cases
    )

pub returns-in_err-push_escape-clause-prefix : goal.returns-in_err-push_escape-clause-prefix
returns-in_err-push_escape-clause-prefix c =
    let bs = c.loop-first.rest.now in
    let others = c.split_at.result.1.now in
    let cut = escaped-stretch bs _ others _ c.unmarked_len.ensures.none c.split_at.ensures.front c.split_at.ensures.back in
    let stretch = prefix-more _ _ _ _ c.loop-first.invariant.prefix c.in_ok-extend_from_slice.ensures.ok in
    let left = ap (λ r. r ++ escaped others) c.in_ok-extend_from_slice.ensures.ok ∙ written-stretch _ _ _ others bs c.loop-first.invariant.text cut in
    let before = prefix-take _ _ _ _ stretch left in
    (before.0, c.in_err-push_escape.ensures.err ∙ before.1)

pub loop-first-preserved : goal.loop-first-preserved
loop-first-preserved c =
    let bs = c.loop-first.rest.now in
    let cut = escaped-stretch bs _ _ _ c.unmarked_len.ensures.none c.split_at.ensures.front c.split_at.ensures.back in
    let stretch = prefix-more _ _ _ _ c.loop-first.invariant.prefix c.in_ok-extend_from_slice.ensures.ok in
    record {
      text = ap (λ r. r ++ escaped c.in-Some.after.now) (c.in_ok-push_escape.ensures.ok ∙ ap (λ r. r ++ escape c.in-Some.first.now) c.in_ok-extend_from_slice.ensures.ok)
          ∙ written-more _ _ _ _ bs _ _ c.loop-first.invariant.text cut c.in-Some.ensures.cases.0;
      prefix = prefix-more _ _ _ _ stretch c.in_ok-push_escape.ensures.ok;
    }
