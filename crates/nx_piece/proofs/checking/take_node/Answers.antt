use Rattle.nx_piece.proofs.ReadLemmas.{no_head}
use Rattle.nx_piece.proofs.checking.take_node.Goals as goal

pub returns-in_default : goal.returns-in_default
returns-in_default c = no_head c.args.bytes.now c.args.left c.requires c.in_default.ensures
