use Rattle.nx_bounds.proofs.WalkLemmas.{Listed}
use Rattle.nx_bounds.proofs.support.claim_children.Given as goal

abbrev pub invariant-loop-child : goal.invariant-loop-child
invariant-loop-child l = Listed l.k l.tree l.bounds l.place l.child-items l.child-index l.next l.list.items
