use Rattle.nx_hold.proofs.MoveLemmas.{piece_adds_record}
use Rattle.nx_hold.proofs.laws.piece_adds_record.Goals as goal

pub returns : goal.returns
returns c = piece_adds_record
