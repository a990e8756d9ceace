use Rattle.nx_parts.proofs.MemberLemmas.{MembersSoFar}
use Rattle.nx_parts.proofs.marks.mark_members.Given as goal

abbrev pub invariant-loop-index : goal.invariant-loop-index
invariant-loop-index l = MembersSoFar l.index l.intervals l.root
