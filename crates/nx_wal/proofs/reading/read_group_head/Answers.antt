use Rattle.std.proofs.Common.{arith, sym, ◌∙◌}
use Rattle.nx_wal.proofs.ReadingLemmas.{reads_at}
use Rattle.nx_wal.proofs.reading.read_group_head.Goals as goal

pub returns-clause-head : goal.returns-clause-head
returns-clause-head g c was told stands =
    let r = reads_at c.args.at was.log stands in
    let head = c.in_ok-number.ensures.head was told (let f = r.fits in omega (arith, f)) in
    record { number = head.0 ∙ r.number; count = head.1 ∙ r.count ∙ sym r.long }
