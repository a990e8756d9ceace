use Rattle.nx_wal.proofs.GatherLemmas.{kept_adds, kept_reaches}
use Rattle.nx_wal.proofs.writing.make_room.Goals as goal

pub returns-then-len-count-le-ROOM-clause-adds : goal.returns-then-len-count-le-ROOM-clause-adds
returns-then-len-count-le-ROOM-clause-adds g c = kept_adds c.args.block.now c.args.disk.now

pub returns-then-len-count-le-ROOM-clause-reaches : goal.returns-then-len-count-le-ROOM-clause-reaches
returns-then-len-count-le-ROOM-clause-reaches g c = kept_reaches 0 c.args.block.now c.args.disk.now
