use Rattle.nx_ship.proofs.SendLemmas.{gives_none}
use Rattle.nx_ship.proofs.sender.give_full.Goals as goal

pub returns-else-len-ge-BLOCK-clause-ok : goal.returns-else-len-ge-BLOCK-clause-ok
returns-else-len-ge-BLOCK-clause-ok g c = gives_none c.args.block.now.items
