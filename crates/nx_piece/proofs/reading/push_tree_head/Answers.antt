use Rattle.nx_piece.proofs.ReadLemmas.{no_head}
use Rattle.nx_piece.proofs.reading.push_tree_head.Goals as goal

pub returns-in_default-clause-node : goal.returns-in_default-clause-node
returns-in_default-clause-node c = no_head c.args.bytes.now c.args.left c.requires.few c.in_default.ensures
