use Rattle.nx_hold.proofs.ContentLemmas.{content_moves}
use Rattle.nx_hold.proofs.laws.content_moves.Goals as goal

pub returns : goal.returns
returns c = content_moves
