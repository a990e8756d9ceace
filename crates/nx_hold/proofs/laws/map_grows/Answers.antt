use Rattle.nx_hold.proofs.MapLemmas.{map_grows}
use Rattle.nx_hold.proofs.laws.map_grows.Goals as goal

pub returns : goal.returns
returns c = map_grows
