use Rattle.nx_tree.proofs.TestLemmas.{IsAmongRest}
use Rattle.nx_tree.proofs.tree.edit.has_attribute.Given as goal

abbrev pub invariant-loop-tree : goal.invariant-loop-tree
invariant-loop-tree l = IsAmongRest l.name l.trees l.tree-index
