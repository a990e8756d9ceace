use Rattle.std.proofs.Common.{length}
use Rattle.nx_tree.proofs.tree.edit.+insert_in.Given as goal

abbrev pub decreases-insert_in : goal.decreases-insert_in
decreases-insert_in l = length l.path.now
