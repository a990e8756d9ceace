use Rattle.nx_hold.proofs.PieceLemmas.{one_piece}
use Rattle.nx_hold.proofs.laws.one_piece.Goals as goal

pub returns : goal.returns
returns c = one_piece
