use Rattle.nx_parts.proofs.MarkLemmas.{ChildrenSoFar}
use Rattle.nx_parts.proofs.marks.Mark.hold_children.Given as goal

abbrev pub invariant-loop-position : goal.invariant-loop-position
invariant-loop-position l = ChildrenSoFar l.first l.position l.end l.index l.fn.self l.self
