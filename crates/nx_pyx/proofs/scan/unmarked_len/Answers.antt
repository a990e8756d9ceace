use Rattle.std.proofs.Common.{◌+◌, ◌-◌, ◌∙◌, sym, arith}
use Rattle.nx_pyx.proofs.ScanLemmas.{none-more}
use Rattle.nx_pyx.proofs.scan.unmarked_len.Goals as goal

pub loop-len-preserved : goal.loop-len-preserved
loop-len-preserved g c =
    let len = c.loop-len.len in
    record {
      within = omega arith;
      none = none-more g.M.Mark.marks c.args.bytes.now len (len + 16 - len) 16 c.loop-len.invariant.none (omega arith) (sym c.has.ensures ∙ c.if-not-has.true);
    }
