use Rattle.nx_tree.specs.Document.{depth}
use Rattle.nx_weights.proofs.HeavyLemmas.{Passed}
use Rattle.nx_weights.proofs.heavy.+find_heavy.Given as goal

abbrev pub decreases-find_heavy : goal.decreases-find_heavy
decreases-find_heavy l = depth l.tree.now.below

abbrev pub invariant-loop-position : goal.invariant-loop-position
invariant-loop-position l = Passed l.k l.position l.path.items l.fn.path.items l.child-items l.tree
