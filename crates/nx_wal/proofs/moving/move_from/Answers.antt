use Rattle.std.proofs.Common.{◌≡◌, ℕ, ◌+◌, ◌*◌, ◌≤◌, length, take, drop, sym, subst, ◌∙◌}
use Rattle.nx_host.specs.declared.disk.Area.TheVariants.{Pages}
use Rattle.nx_host.specs.Disk.{WritesTo}
use Rattle.nx_replay.proofs.SettledLemmas.{on_ok}
use Rattle.nx_wal.proofs.ReadingLemmas.{some_same}
use Rattle.nx_wal.proofs.moving.move_from.Goals as goal

pub returns-in-Some-clause-moved : goal.returns-in-Some-clause-moved
returns-in-Some-clause-moved g c = on_ok c.move_page.result c.move_page.ensures.moved (λ moved at is was now told told_now fits.
    let same : c.in-Some.at ≡ at = some_same (sym c.in-Some.is ∙ is) in
    subst (λ (k : ℕ). WritesTo Pages (8192 * c.args.page) (take 8192 (drop k was.log)) was now) same (moved was now told told_now (subst (λ (k : ℕ). k + 8192 ≤ length was.log) (sym same) fits)))
