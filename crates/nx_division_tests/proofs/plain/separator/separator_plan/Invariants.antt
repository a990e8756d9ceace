use Rattle.nx_division_tests.proofs.RunLemmas.{PlannedSoFar}
use Rattle.nx_division_tests.proofs.plain.separator.separator_plan.Given as goal

abbrev pub invariant-loop-node : goal.invariant-loop-node
invariant-loop-node l = PlannedSoFar l.nodes l.t l.tolerance l.node-index l.found
