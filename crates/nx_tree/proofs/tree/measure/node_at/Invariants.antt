use Rattle.std.proofs.Common.{◌≡◌, drop}
use Rattle.nx_tree.specs.Edit.{at}
use Rattle.nx_tree.proofs.tree.measure.node_at.Given as goal

abbrev pub invariant-loop-position : goal.invariant-loop-position
invariant-loop-position l = at l.found (drop l.position-index l.path) ≡ at l.tree l.path
