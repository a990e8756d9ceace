use Rattle.nx_hold.proofs.MapLemmas.{piece_map}
use Rattle.nx_hold.proofs.laws.have_piece_map.Goals as goal

pub returns : goal.returns
returns c = piece_map
