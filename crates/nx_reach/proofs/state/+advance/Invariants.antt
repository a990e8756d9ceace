use Rattle.std.proofs.Common.{length}
use Rattle.nx_reach.proofs.state.+advance.Given as goal

abbrev pub decreases-advance : goal.decreases-advance
decreases-advance l = length l.steps.now
