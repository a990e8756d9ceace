use Rattle.std.proofs.Common.{length}
use Rattle.nx_bounds.proofs.PlanLines.{IsRead}
use Rattle.nx_bounds.proofs.text.read.read_plan.Given as goal

abbrev pub invariant-loop-rest : goal.invariant-loop-rest
invariant-loop-rest l = IsRead l.text l.rest l.number l.plan

abbrev pub decreases-loop-rest : goal.decreases-loop-rest
decreases-loop-rest l = length l.rest
