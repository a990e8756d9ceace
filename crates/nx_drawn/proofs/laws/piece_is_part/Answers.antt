use Rattle.nx_drawn.proofs.PieceLemmas.{piece_part}
use Rattle.nx_drawn.proofs.laws.piece_is_part.Goals as goal

pub returns : goal.returns
returns c = piece_part
