use Rattle.nx_slots.proofs.RoomLemmas.{seen_none}
use Rattle.nx_slots.proofs.room.packed_room.Goals as goal

pub loop-i-init : goal.loop-i-init
loop-i-init c = seen_none c.args.page.now c.args.count c.requires.headed c.requires.count
