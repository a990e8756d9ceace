use Rattle.std.proofs.Common.{◌≡◌, ◌+◌, ◌≤◌, arith, length, ◌∙◌}
use Rattle.nx_wal.proofs.ReadingLemmas.{if_ok, if_some, mark_in_log, mark_in_area}
use Rattle.nx_wal.proofs.pages.has_mark.Goals as goal

pub returns-in-Some-clause-mark : goal.returns-in-Some-clause-mark
returns-in-Some-clause-mark g c = if_ok c.begins_with_mark.result c.begins_with_mark.ensures.mark (λ is said was told leads within.
    let place = c.in-Some.ensures.some in
    let long : c.in-Some.at + 8192 ≤ length was.log = within 0 c.in-Some.at place in
    mark_in_log was c.args.places.now c.in-Some.at is leads place (said was told (omega (arith, long))))

pub returns-clause-mark : goal.returns-clause-mark
returns-clause-mark g c = if_ok c.begins_with_mark-2.result c.begins_with_mark-2.ensures.mark (λ is said was told leads within.
    let told_now = c.in_ok-length.ensures.contents ∙ told in
    let same : c.in_ok-length.length ≡ length was.pages = if_some (λ now. c.in_ok-length.length ≡ length now.pages) _ was c.in_ok-length.ensures.value told_now in
    let long : 8192 ≤ length was.pages = omega (arith, same, c.if-length.false) in
    mark_in_area was c.args.places.now is leads c.in_default.ensures.none long (said was told_now (omega (arith, long))))
