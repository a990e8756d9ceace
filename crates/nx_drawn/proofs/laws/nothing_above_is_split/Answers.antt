use Rattle.nx_drawn.proofs.RoomLemmas.{nothing_above}
use Rattle.nx_drawn.proofs.laws.nothing_above_is_split.Goals as goal

pub returns : goal.returns
returns c = nothing_above
