use Rattle.std.proofs.lemmas.Bool.{eqb-true}
use Rattle.std.proofs.Common.{◌++◌, ◌∷◌, [], ◌∙◌, ap}
use Rattle.nx_pyx.specs.Event.{unescape}
use Rattle.nx_pyx.proofs.UnescapeLemmas.{unescape-stretch, backslash_at, unescaped-last, unescape-more, unescaped-more}
use Rattle.nx_pyx.proofs.line.unescaped.Goals as goal

pub returns-in_default : goal.returns-in_default
returns-in_default c =
    let rest = c.loop-bytes.rest.now in
    let cut = unescape-stretch rest _ _ _ c.unmarked_len.ensures.none c.split_at.ensures.front c.split_at.ensures.back in
    c.in_ok-extend_from_slice.ensures.ok ∙ unescaped-last _ _ _ _ rest c.loop-bytes.invariant cut c.in_default.ensures.cases

pub loop-bytes-preserved : goal.loop-bytes-preserved
loop-bytes-preserved c =
    let rest = c.loop-bytes.rest.now in
    let left = c.behind_backslash-byte.result.1.now in
    let byte = c.behind_backslash-byte.result.0 in
    let cut = unescape-stretch rest _ _ _ c.unmarked_len.ensures.none c.split_at.ensures.front c.split_at.ensures.back in
    let at = backslash_at rest _ _ _ _ (λ h. eqb-true _ _ (c.unmarked_len.ensures.end h)) c.split_at.ensures.back c.in-Some.ensures.cases.0 in
    let more = unescape-more _ _ rest _ left _ byte cut c.in-Some.ensures.cases.0 at c.behind_backslash-byte.ensures.value in
    ap (λ bs. bs ++ unescape left) (c.in_ok-push.ensures.ok ∙ ap (λ bs. bs ++ byte ∷ []) c.in_ok-extend_from_slice.ensures.ok)
    ∙ unescaped-more _ _ _ rest left byte c.loop-bytes.invariant more
