use Rattle.nx_sketch.proofs.MarkLemmas.{MarkedSoFar}
use Rattle.nx_sketch.proofs.marks.separator.Given as goal

abbrev pub invariant-loop-spot : goal.invariant-loop-spot
invariant-loop-spot l = MarkedSoFar l.t l.tolerance l.spots l.spot-index l.before l.found
