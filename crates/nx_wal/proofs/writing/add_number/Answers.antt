use Rattle.std.proofs.Common.{arith}
use Rattle.nx_wal.proofs.GatherLemmas.{reaches_wider}
use Rattle.nx_wal.proofs.writing.add_number.Goals as goal

pub returns-clause-reaches : goal.returns-clause-reaches
returns-clause-reaches g c = reaches_wider _ 4 c.args.block.now c.args.disk.now c.add.new.disk (omega arith) c.add.ensures.reaches
