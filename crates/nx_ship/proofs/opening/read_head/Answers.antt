use Rattle.std.proofs.Common.{◌≡◌, Some, refl, subst}
use Rattle.nx_wal.specs.Wal.{current}
use Rattle.nx_wal.specs.Reading.{page_found}
use Rattle.nx_ship.proofs.StoreLemmas.{page_read}
use Rattle.nx_ship.proofs.opening.read_head.Goals as goal

pub returns-in-None-clause-err : goal.returns-in-None-clause-err
returns-in-None-clause-err g c was step none =
    record {
      first = refl;
      bytes = c.load.new.into.bytes;
      there = page_read c.args.wal.now was 0 (Some c.load.new.into.bytes) none
          (subst (λ b. current c.args.wal.now was 0 ≡ page_found b c.load.new.into.bytes) c.in-Ok-true.field-0-test ((c.in-Ok-true.ensures.ok).2 was step));
      wrong = c.in-None.ensures;
    }
