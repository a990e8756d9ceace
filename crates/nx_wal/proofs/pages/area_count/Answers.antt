use Rattle.std.proofs.Common.{◌≡◌, ◌*◌, ◌+◌, ◌<◌, ◌≤◌, length, subst, ◌∙◌, ℕ}
use Rattle.std.specs.Prelude.{◌↔◌}
use Rattle.nx_wal.proofs.ReadingLemmas.{if_some}
use Rattle.nx_wal.proofs.pages.area_count.Goals as goal

pub returns-clause-count : goal.returns-clause-count
returns-clause-count g c was told p =
    let told_now = c.in_ok-length.ensures.contents ∙ told in
    let same : c.in_ok-length.length ≡ length was.pages = if_some (λ now. c.in_ok-length.length ≡ length now.pages) _ was c.in_ok-length.ensures.value told_now in
    subst (λ (n : ℕ). (p < c.whole_pages.result) ↔ ((p < 16777216) × (8192 * p + 8192 ≤ n))) same (c.whole_pages.ensures.count p)
