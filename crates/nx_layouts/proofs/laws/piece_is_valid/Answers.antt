use Rattle.nx_layouts.proofs.ValidLemmas.{piece_valid}
use Rattle.nx_layouts.proofs.laws.piece_is_valid.Goals as goal

pub returns : goal.returns
returns c = piece_valid
