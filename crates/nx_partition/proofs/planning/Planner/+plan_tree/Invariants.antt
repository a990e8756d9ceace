use Rattle.nx_tree.specs.Document.{depth}
use Rattle.nx_minima.specs.Seen.{tops}
use Rattle.nx_partition.specs.Planning.{behind_first}
use Rattle.nx_partition.proofs.WalkLemmas.{IsWalkedTo}
use Rattle.nx_partition.proofs.planning.Planner.+plan_tree.Given as goal

abbrev pub decreases-plan_tree : goal.decreases-plan_tree
decreases-plan_tree l = depth l.tree.now.below

abbrev pub invariant-loop-position : goal.invariant-loop-position
invariant-loop-position l =
    IsWalkedTo (record { k = l.k; forest = l.tree.below; path = l.fn.self.path.items; stands = l.stands.items; own = tops l.tree.below (behind_first l.bounds); old = l.fn.self.parts })
    l.child-items l.bounds l.position l.next l.self.path.items l.self.parts
