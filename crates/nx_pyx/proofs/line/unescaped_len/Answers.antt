use Rattle.std.proofs.lemmas.Bool.{eqb-true}
use Rattle.std.proofs.Common.{◌≡◌, ◌∷◌, ◌++◌, length, ap, arith, length-append}
use Rattle.nx_pyx.specs.Event.{unescape}
use Rattle.nx_pyx.proofs.UnescapeLemmas.{unescape-stretch, backslash_at, unescape-more, length-unescape}
use Rattle.nx_pyx.proofs.line.unescaped_len.Goals as goal

pub overflow_add-len : goal.overflow_add-len
overflow_add-len c =
    let rest = c.loop-after.rest.now in
    let stretch = c.split_at.result.0.now in
    let others = c.split_at.result.1.now in
    let cut : unescape rest ≡ stretch ++ unescape others = unescape-stretch rest stretch others _ c.unmarked_len.ensures.none c.split_at.ensures.front c.split_at.ensures.back in
    omega (arith, ap length cut, length-append stretch (unescape others), length-unescape c.args.content.now)

pub returns-in_default : goal.returns-in_default
returns-in_default c =
    let rest = c.loop-after.rest.now in
    let stretch = c.split_at.result.0.now in
    let others = c.split_at.result.1.now in
    let cut : unescape rest ≡ stretch ++ unescape others = unescape-stretch rest stretch others _ c.unmarked_len.ensures.none c.split_at.ensures.front c.split_at.ensures.back in
    omega (arith, ap length cut, length-append stretch (unescape others), length-unescape others, c.in_default.ensures.cases)

pub overflow_add-len-in-loop-after : goal.overflow_add-len-in-loop-after
overflow_add-len-in-loop-after c =
    let rest = c.loop-after.rest.now in
    let stretch = c.split_at.result.0.now in
    let left = c.behind_backslash.result.1.now in
    let byte = c.behind_backslash.result.0 in
    let cut = unescape-stretch rest stretch c.split_at.result.1.now _ c.unmarked_len.ensures.none c.split_at.ensures.front c.split_at.ensures.back in
    let at = backslash_at rest _ _ _ _ (λ h. eqb-true _ _ (c.unmarked_len.ensures.end h)) c.split_at.ensures.back c.in-Some.ensures.cases.0 in
    let more : unescape rest ≡ stretch ++ (byte ∷ unescape left) = unescape-more stretch _ rest _ left _ byte cut c.in-Some.ensures.cases.0 at c.behind_backslash.ensures.value in
    omega (arith, ap length more, length-append stretch (byte ∷ unescape left), length-unescape c.args.content.now)

pub loop-after-preserved : goal.loop-after-preserved
loop-after-preserved c =
    let rest = c.loop-after.rest.now in
    let stretch = c.split_at.result.0.now in
    let left = c.behind_backslash.result.1.now in
    let byte = c.behind_backslash.result.0 in
    let cut = unescape-stretch rest stretch c.split_at.result.1.now _ c.unmarked_len.ensures.none c.split_at.ensures.front c.split_at.ensures.back in
    let at = backslash_at rest _ _ _ _ (λ h. eqb-true _ _ (c.unmarked_len.ensures.end h)) c.split_at.ensures.back c.in-Some.ensures.cases.0 in
    let more : unescape rest ≡ stretch ++ (byte ∷ unescape left) = unescape-more stretch _ rest _ left _ byte cut c.in-Some.ensures.cases.0 at c.behind_backslash.ensures.value in
    omega (arith, ap length more, length-append stretch (byte ∷ unescape left))
