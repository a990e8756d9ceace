use Rattle.nx_steps.proofs.CountLemmas.{room_counted}
use Rattle.nx_steps.proofs.laws.room_is_counted.Goals as goal

pub returns : goal.returns
returns c = room_counted
