use Rattle.std.proofs.Common.{length}
use Rattle.nx_reach.specs.Text.{HasReadSteps}
use Rattle.nx_reach.proofs.text.read_steps.Given as goal

abbrev pub invariant-loop-rest : goal.invariant-loop-rest
invariant-loop-rest l = HasReadSteps l.text l.steps l.rest

abbrev pub decreases-loop-rest : goal.decreases-loop-rest
decreases-loop-rest l = length l.rest
