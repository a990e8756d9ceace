use Rattle.nx_drawn.proofs.RoomLemmas.{raised_has_room}
use Rattle.nx_drawn.proofs.laws.raised_has_room.Goals as goal

pub returns : goal.returns
returns c = raised_has_room
