use Rattle.std.proofs.Common.{arith}
use Rattle.byteorder.specs.Endian.{big_bytes}
use Rattle.byteorder.specs.Numbers.{length-bytes_high_first}
use Rattle.nx_replay.proofs.SettledLemmas.{on_ok}
use Rattle.nx_wal.proofs.GatherLemmas.{adds_then, reaches_then, reaches_wider}
use Rattle.nx_wal.proofs.writing.add_head.Goals as goal

pub returns-in_err-add_long-clause-reaches : goal.returns-in_err-add_long-clause-reaches
returns-in_err-add_long-clause-reaches g c = reaches_wider 8 12 c.args.block.now c.args.disk.now c.add_long.new.disk (omega arith) c.add_long.ensures.reaches

pub returns-clause-adds : goal.returns-clause-adds
returns-clause-adds g c = on_ok c.add_number.result c.add_number.ensures.adds (λ adds. adds_then c.in_ok-add_long.ensures.adds adds)

pub returns-clause-reaches : goal.returns-clause-reaches
returns-clause-reaches g c =
    reaches_then (big_bytes 8 c.args.number) 4 12 (omega (arith, length-bytes_high_first 8 c.args.number)) c.in_ok-add_long.ensures.adds c.add_number.ensures.reaches
