use Rattle.std.proofs.Common.{arith, length}
use Rattle.nx_wal.proofs.GatherLemmas.{adds_then, filled_adds, reaches_wider}
use Rattle.nx_wal.proofs.writing.add.Goals as goal

pub returns-in_err-make_room-clause-reaches : goal.returns-in_err-make_room-clause-reaches
returns-in_err-make_room-clause-reaches g c =
    reaches_wider 0 (length c.args.bytes.now) c.args.block.now c.args.disk.now c.make_room.new.disk (omega arith) c.make_room.ensures.reaches

pub returns-clause-adds : goal.returns-clause-adds
returns-clause-adds g c =
    adds_then c.in_ok-make_room.ensures.adds (filled_adds c.make_room.new.block c.fill.new.block c.args.bytes.now c.make_room.new.disk c.fill.ensures.filled c.fill.ensures.stays)

pub returns-clause-reaches : goal.returns-clause-reaches
returns-clause-reaches g c =
    reaches_wider 0 (length c.args.bytes.now) c.args.block.now c.args.disk.now c.make_room.new.disk (omega arith) c.make_room.ensures.reaches
