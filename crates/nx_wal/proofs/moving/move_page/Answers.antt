use Rattle.std.proofs.Common.{◌≡◌, ◌*◌, arith, length, subst, List, ℕ}
use Rattle.nx_host.specs.declared.disk.Area.TheVariants.{Pages}
use Rattle.nx_host.specs.Disk.{WritesTo}
use Rattle.nx_replay.proofs.SettledLemmas.{on_ok}
use Rattle.nx_replay.proofs.SettledLemmas.{told_still}
use Rattle.nx_wal.proofs.MovingLemmas.{page_given}
use Rattle.nx_wal.proofs.moving.move_page.Goals as goal

pub returns-clause-moved : goal.returns-clause-moved
returns-clause-moved g c = on_ok c.write_area.result c.write_area.ensures.written (λ written was now told told_now fits.
    let long : length c.read_from.new.into ≡ 8192 = omega arith in
    let gives = c.in_ok-read_from.ensures.gives was told in
    subst (λ (x : List ℕ). WritesTo Pages (8192 * c.args.page) x was now) (page_given c.in_ok-read_from.field-0 c.args.at c.read_from.new.into was.log gives long fits)
    (written was now (told_still was c.read_from.ensures.still told) told_now))
